-- The blocks of the first numbers are in the map, between the others.
use Rattle.std.proofs.Common.{List, ◌++◌, drop}
use Rattle.leak_blocks.specs.declared.block.Block.{Block}
use Rattle.leak_blocks.specs.Runs.{AreBetween}
use Rattle.leak_blocks.proofs.RunLemmas.{ArePlaced}
use Rattle.leak_blocks.proofs.ongoing_replay.place.Given as goal

abbrev pub invariant-loop-number : goal.invariant-loop-number
invariant-loop-number l = (below held above : List Block) → AreBetween l.allocated l.initial.numbers.entries l.run below held above → ArePlaced (below ++ held) above l.numbers.entries (drop l.number-index l.run)
