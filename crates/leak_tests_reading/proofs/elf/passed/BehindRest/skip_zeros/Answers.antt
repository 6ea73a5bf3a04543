-- The word that is passed over is the 0 that was read.
use Rattle.std.proofs.Common.{◌≡◌, ℕ, ◌+◌, ◌%◌, List, Option, Some, IfSome, inl, inr, refl, subst, arith}
use Rattle.std.proofs.lemmas.Bool.{cases_eq, ne_eqb}
use Rattle.leak_elf.specs.Head.{aligned_number_at, AreZerosUpTo}
use Rattle.leak_tests_reading.proofs.elf.passed.BehindRest.skip_zeros.Goals as goal

odd_zero : (bytes : List ℕ) (k : ℕ) → (k % 8 ≡ 0 → ⊥) → IfSome (aligned_number_at bytes k) (λ word. word ≡ 0)
unfolding aligned_number_at
odd_zero bytes k odd = rw (ne_eqb (k % 8) 0 odd) tt

one_zero : (bytes : List ℕ) (at : ℕ) → at % 8 ≡ 0 → Some 0 ≡ aligned_number_at bytes at → AreZerosUpTo bytes at (at + 8)
one_zero bytes at even zero = record {
  at_or_after = omega arith;
  multiple = omega arith;
  each = λ k l m. elim (cases_eq (k % 8) 0) [
    | inl e ↦ let here : at ≡ k = omega arith in subst (λ (n : ℕ). IfSome (aligned_number_at bytes n) (λ word. word ≡ 0)) here (subst (λ (word : Option ℕ). IfSome word (λ w. w ≡ 0)) zero refl)
    | inr odd ↦ odd_zero bytes k odd
  ];
}

pub returns-in-Some-eq0 : goal.returns-in-Some-eq0
returns-in-Some-eq0 c =
    let bytes = c.args.self.now.bytes.now in
    let is : c.in-Some-eq0.field-0 ≡ 0 = omega (arith, c.in-Some-eq0.field-0-test) in
    one_zero bytes c.args.at c.requires (subst (λ (word : ℕ). Some word ≡ aligned_number_at bytes c.args.at) is c.in-Some-eq0.ensures)
