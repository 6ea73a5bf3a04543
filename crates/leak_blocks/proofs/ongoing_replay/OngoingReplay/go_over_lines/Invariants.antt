-- The lines so far were gone over, and the number is that of the last.
use Rattle.std.proofs.Common.{◌≡◌, ◌+◌, take}
use Rattle.leak_mtrace.specs.Parts.{moved}
use Rattle.leak_blocks.specs.Windows.{GoesOver}
use Rattle.leak_blocks.proofs.ongoing_replay.OngoingReplay.go_over_lines.Given as goal

abbrev pub invariant-loop-line : goal.invariant-loop-line
invariant-loop-line l = GoesOver l.from.lines (moved l.from.bytes (take l.line-index l.lines)) l.initial.self l.self × (l.number ≡ l.from.lines + l.line-index)
