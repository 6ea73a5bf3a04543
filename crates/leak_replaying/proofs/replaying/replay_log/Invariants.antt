-- The log was read so far, and its replay has gone over the same lines.
use Rattle.std.proofs.Common.{◌≡◌, ◌+◌, ◌-◌, List, [], false, if◌then◌else◌}
use Rattle.leak_mtrace.specs.declared.line.Line.{Line}
use Rattle.leak_replaying.specs.Replaying.{IsAtEnd, IsBetween, IsUnderway}
use Rattle.leak_replaying.proofs.replaying.replay_log.Given as goal

abbrev pub invariant-loop-more : goal.invariant-loop-more
invariant-loop-more g l =
    ((first : g.row.R.Denot) → IsUnderway g.R.ReadCalls.calls l.limit first l.fn.reader l.fn.log [] []
    → (lines : List Line) × IsBetween g.R.ReadCalls.calls l.limit first l.reader l.log lines l.stage)
    × (l.more ≡ false → IsAtEnd l.log)
    × (l.log.spans ≡ l.fn.log.spans)

abbrev pub decreases-loop-more : goal.decreases-loop-more
decreases-loop-more g l = (l.limit - l.log.at.bytes) + (if l.more then 1 else 0)
