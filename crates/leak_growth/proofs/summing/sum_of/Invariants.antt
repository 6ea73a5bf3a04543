-- The sum of the blocks so far.
use Rattle.std.proofs.Common.{◌≡◌, take}
use Rattle.leak_growth.specs.Rows.{new_of, sizes_of}
use Rattle.leak_growth.proofs.summing.sum_of.Given as goal

abbrev pub invariant-loop-block : goal.invariant-loop-block
invariant-loop-block l = l.sum ≡ sizes_of (new_of l.after (take l.block-index l.blocks))
