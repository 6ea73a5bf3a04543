-- The reader and the replay have come equally far.
use Rattle.std.proofs.Common.{◌≡◌, ◌≤◌, ◌-◌, length}
use Rattle.leak_blocks.specs.Runs.{HaveRead}
use Rattle.leak_blocks.proofs.ongoing_replay.OngoingReplay.read_on.Given as goal

abbrev pub invariant-loop-line : goal.invariant-loop-line
invariant-loop-line l = HaveRead l.reader l.self × (l.reader.bytes ≡ l.initial.reader.bytes) × (l.initial.reader.count ≤ l.reader.count)

abbrev pub decreases-loop-line : goal.decreases-loop-line
decreases-loop-line l = length l.initial.reader.bytes - l.reader.count
