-- The address of a block that is asked for. Own rule, after gdb, which prints addresses so.
use Rattle.std.specs.Prelude.{◌≡◌, ℕ, ◌+◌, ◌-◌, ◌*◌, ◌≤◌, List, ◌++◌, length, codes, nat_le, if◌then◌else◌, IsTrue, Bool, ◌&&◌, ◌||◌}
use Rattle.std.specs.List.{list_all, fold}

-- 0-9, A-F and a-f
abbrev pub is_digit : ℕ → Bool
is_digit b = (nat_le 48 b && nat_le b 57) || (nat_le 65 b && nat_le b 70) || (nat_le 97 b && nat_le b 102)

-- what a digit counts
abbrev pub digit_value : ℕ → ℕ
digit_value b = if nat_le b 57 then b - 48 else (if nat_le b 70 then b - 55 else b - 87)

-- the number that the digits write, the highest first
abbrev pub value_of : List ℕ → ℕ
value_of digits = fold (λ n d. 16 * n + digit_value d) 0 digits

-- 0x and 1 to 16 digits
abbrev pub IsAddress : List ℕ → ℕ → Type 0
IsAddress text n = (digits : List ℕ) × (text ≡ codes "0x" ++ digits) × (1 ≤ length digits) × (length digits ≤ 16)
    × IsTrue (list_all is_digit digits) × (n ≡ value_of digits)

-- the text is no address
abbrev pub IsBadAddress : List ℕ → Type 0
IsBadAddress text = (a : ℕ) → IsAddress text a → ⊥
