-- The numbers of a line of the log, as glibc's mtrace prints them.
use Rattle.std.specs.Prelude.{◌≡◌, ℕ, ◌+◌, ◌-◌, ◌*◌, ◌≤◌, ◌⊎◌, List, ◌∷◌, ◌++◌, length, codes, take, drop, nat_le, if◌then◌else◌, IsTrue, Bool, ◌&&◌, ◌||◌}
use Rattle.std.specs.List.{list_all, fold}

-- 0-9 and a-f
abbrev pub is_digit : ℕ → Bool
is_digit b = (nat_le 48 b && nat_le b 57) || (nat_le 97 b && nat_le b 102)

-- what a digit counts
abbrev pub digit_value : ℕ → ℕ
digit_value b = if nat_le b 57 then b - 48 else b - 87

-- the number that the digits write, the highest first
abbrev pub value_of : List ℕ → ℕ
value_of digits = fold (λ n d. 16 * n + digit_value d) 0 digits

-- 0x and 1 to 16 digits
abbrev pub IsHex : List ℕ → ℕ → Type 0
IsHex text n = (digits : List ℕ) × (text ≡ codes "0x" ++ digits) × (1 ≤ length digits) × (length digits ≤ 16)
    × IsTrue (list_all is_digit digits) × (n ≡ value_of digits)

-- (nil), or a number in hexadecimal
abbrev pub IsAddress : List ℕ → ℕ → Type 0
IsAddress text n = ((text ≡ codes "(nil)") × (n ≡ 0)) ⊎ IsHex text n

-- 0, or a number in hexadecimal
abbrev pub IsSize : List ℕ → ℕ → Type 0
IsSize text n = ((text ≡ codes "0") × (n ≡ 0)) ⊎ IsHex text n

-- an address, a space and a size
abbrev pub IsPair : List ℕ → ℕ → ℕ → Type 0
IsPair text addr size = (a : List ℕ) × (s : List ℕ) × (text ≡ a ++ 32 ∷ s) × IsAddress a addr × IsSize s size

-- an address before the place, and a size behind it
abbrev pub IsPairAround : List ℕ → ℕ → ℕ → ℕ → Type 0
IsPairAround text space addr size = IsAddress (take space text) addr × IsSize (drop (space + 1) text) size
