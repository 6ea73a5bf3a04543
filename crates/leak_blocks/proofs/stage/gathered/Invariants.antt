-- The blocks of the first numbers, in order.
use Rattle.std.proofs.Common.{List, drop}
use Rattle.leak_blocks.specs.declared.block.Block.{Block}
use Rattle.leak_blocks.specs.Numbers.{AreNumbered}
use Rattle.leak_blocks.proofs.GatherLemmas.{AreGathered}
use Rattle.leak_blocks.proofs.stage.gathered.Given as goal

abbrev pub invariant-loop-number : goal.invariant-loop-number
invariant-loop-number l = (blocks : List Block) → AreNumbered l.allocated l.numbers blocks → AreGathered l.allocated blocks l.blocks.items (drop l.number-index l.numbers)
