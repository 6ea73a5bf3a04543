-- Of the blocks that are left, those that the allocation doesn't meet are the same.
use Rattle.std.proofs.Common.{List}
use Rattle.std.specs.BTreeMap.{btree_map_len}
use Rattle.leak_blocks.specs.declared.block.Block.{Block}
use Rattle.leak_blocks.specs.Numbers.{AreOf}
use Rattle.leak_blocks.proofs.ChangeLemmas.{AreLeft}
use Rattle.leak_blocks.proofs.numbers.displace.Given as goal

abbrev pub invariant-loop-start : goal.invariant-loop-start
invariant-loop-start l = (blocks : List Block) → AreOf l.allocated l.initial.numbers.entries blocks → AreLeft l.allocated l.line l.numbers.entries blocks

abbrev pub decreases-loop-start : goal.decreases-loop-start
decreases-loop-start l = btree_map_len l.numbers
