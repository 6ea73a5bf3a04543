-- The list of --displace: decimal numbers between commas. Own rule.
use Rattle.std.specs.Prelude.{◌≡◌, ◌<◌, IsTrue, ℕ, ◌+◌, ◌-◌, ◌*◌, ◌^◌, ◌==◌, ◌&&◌, not, Bool, List, [], ◌∷◌, length, map, nat_le, nat_lt, if◌then◌else◌, Option, Some, None, option_map}
use Rattle.std.specs.List.{fold, list_all, position_from}
use Rattle.std.specs.Borrow.{Bor}
use Rattle.leak_index.specs.Readings.{refusal_of}
use Rattle.leak_request.specs.declared.fault.DisplaceFault.{DisplaceFault}
use Rattle.leak_request.specs.declared.fault.DisplaceFault.TheVariants as fault

-- the items, with a byte put before the first of them
abbrev pub before_first : ℕ → List (List ℕ) → List (List ℕ)
before_first byte [] = (byte ∷ []) ∷ []
before_first byte (item ∷ items) = (byte ∷ item) ∷ items

-- what comes before, between and after the commas of the text: one item more than it has commas
abbrev pub items_of : List ℕ → List (List ℕ)
items_of [] = [] ∷ []
items_of (byte ∷ rest) = if byte == 44 then [] ∷ items_of rest else before_first byte (items_of rest)

-- the items of what follows a comma, and none if there is no comma
abbrev pub items_after : Option (Bor (List ℕ)) → List (List ℕ)
items_after None = []
items_after (Some text) = items_of text.now

-- 0-9
abbrev pub is_decimal : ℕ → Bool
is_decimal byte = nat_le 48 byte && nat_le byte 57

-- the number that the digits write, the highest first
abbrev pub decimal_value : List ℕ → ℕ
decimal_value digits = fold (λ n byte. 10 * n + (byte - 48)) 0 digits

-- the number with one digit more after its others
abbrev pub next_value : ℕ → ℕ → ℕ
next_value n byte = 10 * n + (byte - 48)

-- the byte is a digit, and the number with it is under 2^64
abbrev pub IsNextDigit : ℕ → ℕ → Type 0
IsNextDigit n byte = IsTrue (is_decimal byte) × (next_value n byte < 2 ^ 64)

-- 1 to 20 decimal digits, with a value under 2^64
abbrev pub is_number : List ℕ → Bool
is_number item = nat_le 1 (length item) && nat_le (length item) 20 && list_all is_decimal item && nat_lt (decimal_value item) (2 ^ 64)

-- the numbers that the items write
abbrev pub values_in : List (List ℕ) → List ℕ
values_in items = map decimal_value items

-- the number of the first item that is no number
abbrev pub first_other : List (List ℕ) → Option ℕ
first_other items = position_from (λ item. not (is_number item)) 0 items

-- why the items are no reading, if they aren't; the first that is no number has the number, if there is one
abbrev pub fault_among : List (List ℕ) → Option ℕ → Option DisplaceFault
fault_among items (Some i) = Some (fault.Number i)
fault_among items None = option_map fault.Reading (refusal_of (values_in items))

-- the displacements that the text lists
abbrev pub displacements_of : List ℕ → List ℕ
displacements_of text = values_in (items_of text)

-- why the text lists no displacements, if it doesn't
abbrev pub displace_fault_of : List ℕ → Option DisplaceFault
displace_fault_of text = fault_among (items_of text) (first_other (items_of text))

-- the text lists just these displacements
abbrev pub IsListed : List ℕ → Option (List ℕ) → Type 0
IsListed text listed = (displace_fault_of text ≡ None) × (listed ≡ Some (displacements_of text))
