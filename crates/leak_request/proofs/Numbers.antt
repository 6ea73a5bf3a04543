-- The value of digits, as they are read from the front.
use Rattle.std.proofs.Common.{◌≡◌, ◌^◌, slice_index_or, IsTrue, ℕ, ◌+◌, ◌-◌, ◌*◌, ◌<◌, ◌≤◌, suc, true, sym, ◌∙◌, List, [], ◌∷◌, drop, length, arith}
use Rattle.std.proofs.lemmas.Bool.{and_parts}
use Rattle.std.proofs.lemmas.List.{drop_all}
use Rattle.std.proofs.Math.Seq.{drop-cons}
use Rattle.std.specs.List.{fold, list_all}
use Rattle.leak_request.specs.Displacements.{decimal_value, is_decimal, is_number}

-- the number that the digits write after those of n
abbrev pub value_after : ℕ → List ℕ → ℕ
value_after n digits = fold (λ n byte. 10 * n + (byte - 48)) n digits

-- more digits make no smaller number
pub value_after-least : (n : ℕ) (digits : List ℕ) → n ≤ value_after n digits
value_after-least n [] = omega arith
value_after-least n (byte ∷ digits) =
    let more = value_after-least (10 * n + (byte - 48)) digits in omega arith

-- the value of the first i bytes, which are digits
pub record IsReadAsNumber (item : List ℕ) (i value : ℕ) : Type 0 where
  pub left : decimal_value item ≡ value_after value (drop i item)
  pub digits : list_all is_decimal item ≡ list_all is_decimal (drop i item)
  pub small : value < 2 ^ 64

pub read_is_number : (item : List ℕ) (value i : ℕ) → IsReadAsNumber item i value → length item ≤ i → 1 ≤ length item → length item ≤ 20
    → IsTrue (is_number item) × (value ≡ decimal_value item)
read_is_number item value i read all some few =
    let none : drop i item ≡ [] = drop_all i item all in
    let value_is : decimal_value item ≡ value = rw none at read.left in
    let all_digits : list_all is_decimal item ≡ true = rw none at read.digits in
    (grind (arith, all_digits, value_is, some, few, read.small), sym value_is)

pub no_number : (item : List ℕ) (value i : ℕ) → IsReadAsNumber item i value → i < length item
    → ¬ (IsTrue (is_decimal (slice_index_or item i 0)) × (10 * value + (slice_index_or item i 0 - 48) < 2 ^ 64)) → ¬ IsTrue (is_number item)
no_number item value i read more other =
    let next = drop-cons item i 0 more in
    let least = value_after-least (10 * value + (slice_index_or item i 0 - 48)) (drop (suc i) item) in
    λ is.
    let all : list_all is_decimal item ≡ true = grind (arith, is) in
    let small : decimal_value item < 2 ^ 64 = grind (arith, is) in
    let digits : list_all is_decimal (slice_index_or item i 0 ∷ drop (suc i) item) ≡ true = rw next at (sym read.digits ∙ all) in
    let digit : is_decimal (slice_index_or item i 0) ≡ true = (and_parts _ _ digits).0 in
    let bound : decimal_value item ≡ value_after value (slice_index_or item i 0 ∷ drop (suc i) item) = rw next at read.left in
    other (digit, omega (arith, bound, least, small))
