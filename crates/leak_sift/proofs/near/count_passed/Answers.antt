-- Blocks ascend, so the last that has its size word at the place or before it tells of those before it, and the first
-- that hasn't of those after it.
use Rattle.std.proofs.Common.{◌-◌, leb, arith, rules}
use Rattle.std.proofs.lemmas.Bool.{leb-true, leb-false}
use Rattle.std.proofs.lemmas.List.Sorted.{IsPartitionPoint-from_clause, IsPartitionedBy-leb}
use Rattle.leak_blocks.specs.declared.block.Block.{Block}
use Rattle.leak_sift.proofs.NearLemmas.{after_first, before_last, rising}
use Rattle.leak_sift.proofs.near.count_passed.Goals as goal

pub returns-then-not-is_soon_after : goal.returns-then-not-is_soon_after
returns-then-not-is_soon_after c =
    let point = IsPartitionPoint-from_clause (λ (b : Block). leb (b.start - 8) c.args.place) _ _ c.partition_point.ensures.partitioned (IsPartitionedBy-leb (λ (b : Block). b.start - 8) _ _ (rising _ c.requires.disjoint)) (λ a r q k. search rules) in
    record {
      bound = c.partition_point.ensures.bound;
      before = λ k d h. leb-true _ _ (point.0 k d (omega (arith, c.partition_point.ensures.bound)) h);
      after = λ k d h l. leb-false _ _ (point.1 k d h l);
    }

pub loop-count-init : goal.loop-count-init
loop-count-init c = before_last c.args.blocks.now c.args.place c.requires.disjoint c.args.guess c.requires.guessed (c.is_soon_after.ensures (search rules))

pub returns-else-size_place-place : goal.returns-else-size_place-place
returns-else-size_place-place c = after_first c.args.blocks.now c.args.place c.requires.disjoint c.loop-count.count c.loop-count.invariant (λ more. omega arith)
