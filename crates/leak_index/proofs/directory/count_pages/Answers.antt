-- The pages ascend, so the search finds where they begin to lie above the page.
use Rattle.std.proofs.Common.{leb, arith, rules}
use Rattle.std.proofs.lemmas.Bool.{leb-true, leb-false}
use Rattle.std.proofs.lemmas.List.Sorted.{IsPartitionPoint-from_clause, IsPartitionedBy-leb}
use Rattle.leak_index.proofs.Narrowing.{rising}
use Rattle.leak_index.proofs.directory.count_pages.Goals as goal

pub returns : goal.returns
returns c =
    let point = IsPartitionPoint-from_clause (λ n. leb n c.args.page) _ _ c.partition_point.ensures.partitioned (IsPartitionedBy-leb (λ n. n) _ _ (rising _ c.requires)) (λ a r q k. search rules) in
    record {
      bound = c.partition_point.ensures.bound;
      within = λ k d h. leb-true _ _ (point.0 k d (omega arith) h);
      beyond = λ k d h l. leb-false _ _ (point.1 k d h l);
    }
