-- By arithmetic, from what the calls promise.
use Rattle.std.proofs.Common.{List, ℕ, ◌≤◌, arith, sym, subst}
use Rattle.leak_marks.specs.Lists.{Has}
use Rattle.leak_why.proofs.finding.first_root_word.Goals as goal

pub returns-then-is_hit-clause-some : goal.returns-then-is_hit-clause-some
returns-then-is_hit-clause-some g c = record {
  from_start = let l = c.loop-address.invariant.low in let m : c.loop-address.at ≤ c.in-Some.address = c.in-Some.ensures.least.0 in omega arith;
  to_end = omega (arith, c.saturating_sub.ensures, c.if-saturating_sub-lt8.false);
  word_is = sym c.in_ok-word.ensures.value;
  leads = subst (λ (l : List ℕ). Has l c.args.block) c.hits_at.ensures (c.is_hit.ensures.0 c.if-is_hit.true);
}
