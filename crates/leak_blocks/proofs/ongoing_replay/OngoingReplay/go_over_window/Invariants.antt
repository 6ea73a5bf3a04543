-- The window's reader and the replay have come equally far.
use Rattle.std.proofs.Common.{◌≡◌, ◌-◌, length}
use Rattle.leak_blocks.specs.Windows.{HaveComeOn}
use Rattle.leak_blocks.proofs.ongoing_replay.OngoingReplay.go_over_window.Given as goal

abbrev pub invariant-loop-line : goal.invariant-loop-line
invariant-loop-line l = HaveComeOn l.reader l.fn.from l.initial.self l.self × (l.reader.bytes ≡ l.initial.reader.bytes)

abbrev pub decreases-loop-line : goal.decreases-loop-line
decreases-loop-line l = length l.initial.reader.bytes - l.reader.count
