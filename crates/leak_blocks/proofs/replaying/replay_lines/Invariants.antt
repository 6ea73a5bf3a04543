-- The state after the lines so far.
use Rattle.std.proofs.Common.{◌≤◌, ◌-◌, length, take}
use Rattle.leak_blocks.specs.Numbers.{IsStageAfter}
use Rattle.leak_blocks.proofs.replaying.replay_lines.Given as goal

abbrev pub invariant-loop-next : goal.invariant-loop-next
invariant-loop-next l = IsStageAfter (take l.next l.lines) l.stage × (l.next ≤ length l.lines)

abbrev pub decreases-loop-next : goal.decreases-loop-next
decreases-loop-next l = length l.lines - l.next
