-- Blocks that are apart ascend, so the search finds where they begin to lie after the address.
use Rattle.std.proofs.Common.{leb, arith, rules}
use Rattle.std.proofs.lemmas.Bool.{leb-true, leb-false}
use Rattle.std.proofs.lemmas.List.Sorted.{IsPartitionPoint-from_clause, IsPartitionedBy-leb}
use Rattle.leak_blocks.specs.declared.block.Block.{Block}
use Rattle.leak_index.proofs.Near.{ascending}
use Rattle.leak_index.proofs.sorted.count_up_to.Goals as goal

pub returns : goal.returns
returns c =
    let point = IsPartitionPoint-from_clause (λ (b : Block). leb b.start c.args.address) _ _ c.partition_point.ensures.partitioned (IsPartitionedBy-leb (λ (b : Block). b.start) _ _ (ascending _ c.requires)) (λ a r q k. search rules) in
    record {
      bound = c.partition_point.ensures.bound;
      within = λ k d h. leb-true _ _ (point.0 k d (omega arith) h);
      beyond = λ k d h l. leb-false _ _ (point.1 k d h l);
    }
