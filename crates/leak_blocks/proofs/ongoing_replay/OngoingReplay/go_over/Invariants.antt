-- The state after the lines so far. Another line is there.
use Rattle.std.proofs.Common.{◌<◌, ◌≤◌, ◌-◌, length, take}
use Rattle.leak_blocks.specs.Runs.{IsOngoingAfter}
use Rattle.leak_blocks.proofs.ongoing_replay.OngoingReplay.go_over.Given as goal

abbrev pub invariant-loop-self : goal.invariant-loop-self
invariant-loop-self l = IsOngoingAfter (take l.at l.lines) l.self × (l.fn.next ≤ l.at) × (l.at < length l.lines)

abbrev pub decreases-loop-self : goal.decreases-loop-self
decreases-loop-self l = length l.lines - l.at
