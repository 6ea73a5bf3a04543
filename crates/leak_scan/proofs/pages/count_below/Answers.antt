-- The numbers ascend, so the search finds where they stop being below the page.
use Rattle.std.proofs.Common.{ltb, arith, rules}
use Rattle.std.proofs.lemmas.Bool.{ltb-true, ltb-false}
use Rattle.std.proofs.lemmas.List.Sorted.{IsPartitionPoint-from_clause, IsPartitionedBy-ltb}
use Rattle.leak_scan.proofs.Listing.{ascending}
use Rattle.leak_scan.proofs.pages.count_below.Goals as goal

pub returns : goal.returns
returns c =
    let point = IsPartitionPoint-from_clause (λ n. ltb n c.args.page) _ _ c.partition_point.ensures.partitioned (IsPartitionedBy-ltb (λ n. n) _ _ (ascending _ c.requires)) (λ a r q k. search rules) in
    record {
      bound = c.partition_point.ensures.bound;
      below = λ k d h. ltb-true _ _ (point.0 k d (omega arith) h);
      others = λ k d h l. ltb-false _ _ (point.1 k d h l);
    }
