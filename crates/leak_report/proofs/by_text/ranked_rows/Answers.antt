-- From lemmas of std.
use Rattle.std.proofs.Common.{rules}
use Rattle.std.proofs.lemmas.List.Sorted.{answers_always}
use Rattle.leak_report.specs.declared.totals.CallerRow.{CallerRow}
use Rattle.leak_report.proofs.by_text.ranked_rows.Goals as goal

pub returns : goal.returns
returns c = record {
  given = c.in_ok-rows.rows.items;
  by_text = c.in_ok-rows.ensures;
  permutation = c.in_ok-sort_by_key.ensures.permutation;
  sorted = c.in_ok-sort_by_key.ensures.sorted (λ (row : CallerRow). record { 0 = row.bytes }) (answers_always _ _ _ (λ f a r g h. search rules));
  stable = c.sort_by_key.ensures.stable (λ (row : CallerRow). record { 0 = row.bytes }) (answers_always _ _ _ (λ f a r g h. search rules));
}
