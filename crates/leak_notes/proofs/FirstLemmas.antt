-- The first number from one on that passes a test.
use Rattle.std.proofs.Common.{◌≡◌, ℕ, zero, suc, ◌+◌, ◌<◌, ◌≤◌, Bool, true, false, Option, Some, None, inl, inr, refl, arith}
use Rattle.std.specs.Prelude.{find}
use Rattle.std.specs.List.{range_with_len}
use Rattle.std.proofs.lemmas.Bool.{cases_lt}

pub first_from : (p : ℕ → Bool) (from n k : ℕ) → from ≤ k → k < from + n → ((j : ℕ) → from ≤ j → j < k → p j ≡ false) → p k ≡ true → find p (range_with_len from n) ≡ Some k
first_from p from zero k l m none is = absurd (omega arith)
first_from p from (suc n) k l m none is = elim (cases_lt from k) [
  | inl before ↦ rw (none from (omega arith) before) (first_from p (from + 1) n k (omega arith) (omega arith) (λ j a b. none j (omega arith) b) is)
  | inr there ↦ let e : k ≡ from = omega arith in let first : p from ≡ true = rw e at is in rw (first, e) refl
]

pub none_from : (p : ℕ → Bool) (from n : ℕ) → ((j : ℕ) → from ≤ j → j < from + n → p j ≡ false) → find p (range_with_len from n) ≡ None
none_from p from zero none = refl
none_from p from (suc n) none = rw (none from (omega arith) (omega arith)) (none_from p (from + 1) n (λ j l m. none j (omega arith) (omega arith)))
