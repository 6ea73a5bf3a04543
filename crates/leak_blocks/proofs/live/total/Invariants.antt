-- The sum so far.
use Rattle.std.proofs.Common.{◌≡◌, sum_by, take}
use Rattle.leak_blocks.proofs.live.total.Given as goal

abbrev pub invariant-loop-block : goal.invariant-loop-block
invariant-loop-block l = l.bytes ≡ sum_by (λ b. b.size) (take l.block-index l.blocks)
