-- The sum of the first sizes is at most that of all.
use Rattle.std.proofs.Common.{◌≡◌, sum_by, take, arith}
use Rattle.std.proofs.lemmas.List.Sums.{sum_by_more_le}
use Rattle.leak_blocks.proofs.SumLemmas.{sum_fits}
use Rattle.leak_blocks.proofs.live.total.Goals as goal

pub overflow_add-bytes : goal.overflow_add-bytes
overflow_add-bytes c =
    let so_far : c.loop-block.bytes ≡ sum_by (λ b. b.size) (take c.loop-block.block-index c.args.blocks.now) = c.loop-block.invariant in
    omega (
      arith,
      so_far,
      sum_fits c.args.blocks.now c.requires.addressed c.requires.disjoint,
      sum_by_more_le (λ b. b.size) c.args.blocks.now c.loop-block.block-index (record { start = 0; size = 0; line = 0; caller = (0, 0) }) c.loop-block-test.true,
    )
