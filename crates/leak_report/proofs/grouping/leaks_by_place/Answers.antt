-- From lemmas of std.
use Rattle.std.proofs.Common.{rules}
use Rattle.std.proofs.lemmas.List.Sorted.{answers_always}
use Rattle.leak_report.specs.declared.grouping.PlacedLeak.{PlacedLeak}
use Rattle.leak_report.proofs.grouping.leaks_by_place.Goals as goal

pub returns : goal.returns
returns c = record {
  listed = c.in_ok-placed.placed.items;
  placed = c.in_ok-placed.ensures;
  permutation = c.sort_by_key.ensures.permutation;
  stable = c.sort_by_key.ensures.stable (λ (p : PlacedLeak). p.place) (answers_always _ _ _ (λ f a r g h. search rules));
}
