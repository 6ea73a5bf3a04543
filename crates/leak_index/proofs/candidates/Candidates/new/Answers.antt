-- The first start and the last end are bounds.
use Rattle.std.proofs.Common.{arith}
use Rattle.std.proofs.lemmas.Bool.Decides.{nat_tests}
use Rattle.leak_blocks.specs.declared.block.Block.{Block}
use Rattle.leak_index.proofs.Near.{bounds}
use Rattle.leak_index.proofs.candidates.Candidates.new.Goals as goal

abbrev empty : Block
empty = record { start = 0; size = 0; line = 0; caller = (0, 0) }

pub invariant_of-result-2 : goal.invariant_of-result-2
invariant_of-result-2 c = bounds _ empty c.blocks-blocks.ensures.disjoint (grind (arith, nat_tests))
