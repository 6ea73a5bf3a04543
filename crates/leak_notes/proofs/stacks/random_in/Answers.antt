-- From the lemmas of FirstLemmas.
use Rattle.std.proofs.Common.{◌≡◌, ℕ, ◌+◌, ◌*◌, ◌/◌, true, false, Option, ap, refl, sym, ◌∙◌, length, inl, inr, arith, option_map}
use Rattle.std.proofs.lemmas.Bool.{cases_lt, eq-eqb, ne_eqb}
use Rattle.std.specs.Int.{w64}
use Rattle.leak_elf.specs.Fields.{number_at}
use Rattle.leak_notes.specs.Stacks.{is_random, random_in}
use Rattle.leak_notes.proofs.FirstLemmas.{first_from, none_from}
use Rattle.leak_notes.proofs.stacks.random_in.Goals as goal

pub loop-k-init : goal.loop-k-init
loop-k-init c = λ j h. absurd (omega arith)

pub loop-k-preserved : goal.loop-k-preserved
loop-k-preserved c = λ j h. elim (cases_lt j c.loop-k.k) [
  | inl before ↦ c.loop-k.invariant j before
  | inr there ↦
      let e : j ≡ c.loop-k.k = omega arith in
      let other : is_random c.args.vector.now c.loop-k.k ≡ false = ne_eqb _ _ (λ z. c.if-u64_at-eq-AT_RANDOM.false (c.u64_at.ensures ∙ z)) in
      ap (is_random c.args.vector.now) e ∙ other
]

pub returns-then-u64_at-eq-AT_RANDOM : goal.returns-then-u64_at-eq-AT_RANDOM
unfolding random_in
returns-then-u64_at-eq-AT_RANDOM c =
    let here : is_random c.args.vector.now c.loop-k.k ≡ true = eq-eqb _ _ (sym c.u64_at.ensures ∙ c.if-u64_at-eq-AT_RANDOM.true) in
    rw (first_from (is_random c.args.vector.now) 0 (length c.args.vector.now / 16) c.loop-k.k (omega arith) (omega arith) (λ j l m. c.loop-k.invariant j m) here)
    (rw c.u64_at-then-u64_at-eq-AT_RANDOM.ensures refl)

pub returns : goal.returns
unfolding random_in
returns c =
    rw (none_from (is_random c.args.vector.now) 0 (length c.args.vector.now / 16) (λ j l m. c.loop-k.invariant j (let t = c.loop-k-test.false in omega arith))) refl
