-- The lines so far are read.
use Rattle.std.proofs.Common.{◌≡◌, ◌-◌, length}
use Rattle.leak_mtrace.specs.Reading.{HasRead}
use Rattle.leak_mtrace.proofs.log.Log.read.Given as goal

abbrev pub invariant-loop-lines : goal.invariant-loop-lines
invariant-loop-lines l = HasRead l.reader l.lines.items × (l.reader.bytes ≡ l.bytes)

abbrev pub decreases-loop-lines : goal.decreases-loop-lines
decreases-loop-lines l = length l.initial.bytes - l.reader.count
