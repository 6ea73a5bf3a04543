-- The rows so far are those of the same blocks, up to that of the block.
use Rattle.std.proofs.Common.{◌+◌, ◌-◌, ◌<◌, ◌≤◌, length}
use Rattle.leak_index.specs.Ranks.{IsMadeTo}
use Rattle.leak_index.proofs.ranks.Ranks.reach.Given as goal

abbrev pub invariant-loop-self : goal.invariant-loop-self
invariant-loop-self l = record { made : IsMadeTo l.blocks l.number l.self; some : 0 < length l.self.numbers.items; next : l.self.next ≤ l.row + 1 }

abbrev pub decreases-loop-self : goal.decreases-loop-self
decreases-loop-self l = l.row + 1 - l.self.next
