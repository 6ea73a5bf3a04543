-- Blocks that are apart ascend, so the search finds where they stop beginning before the address.
use Rattle.std.proofs.Common.{ltb, arith, rules}
use Rattle.std.proofs.lemmas.Bool.{ltb-true, ltb-false}
use Rattle.std.proofs.lemmas.List.Sorted.{IsPartitionPoint-from_clause, IsPartitionedBy-ltb}
use Rattle.leak_blocks.specs.declared.block.Block.{Block}
use Rattle.leak_index.specs.Ranks.{none}
use Rattle.leak_index.proofs.Near.{ascending}
use Rattle.leak_chunks.proofs.free_link.count_before.Goals as goal

pub returns : goal.returns
returns c =
    let point = IsPartitionPoint-from_clause (λ (b : Block). ltb b.start c.args.address) _ _ c.partition_point.ensures.partitioned (IsPartitionedBy-ltb (λ (b : Block). b.start) _ _ (ascending _ c.requires)) (λ a r q k. search rules) in
    record {
      bound = c.partition_point.ensures.bound;
      below = λ k h. ltb-true _ _ (point.0 k none (omega (arith, c.partition_point.ensures.bound)) h);
      above = λ k h l. ltb-false _ _ (point.1 k none h l);
    }
