-- From lemmas of std.
use Rattle.std.proofs.Common.{List, subst, rules}
use Rattle.std.proofs.lemmas.List.Sorted.{answers_always}
use Rattle.leak_growth.specs.declared.rows.Row.{Row}
use Rattle.leak_growth.specs.Rows.{raised, AreRanked}
use Rattle.leak_growth.proofs.rows.ranked_rows.Goals as goal

pub returns : goal.returns
returns c = subst (λ (given : List Row). AreRanked given c.sort_by_key.new.self.items) c.in_ok-rows.ensures (record {
  permutation = c.in_ok-sort_by_key.ensures.permutation;
  sorted = c.in_ok-sort_by_key.ensures.sorted (λ (row : Row). record { 0 = raised row }) (answers_always _ _ _ (λ f a r g h. search rules));
  stable = c.sort_by_key.ensures.stable (λ (row : Row). record { 0 = raised row }) (answers_always _ _ _ (λ f a r g h. search rules));
})
