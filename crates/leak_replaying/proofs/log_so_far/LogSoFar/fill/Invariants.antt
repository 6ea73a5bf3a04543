-- The log and the replay have gone on, and the place in the log did not go back.
use Rattle.std.proofs.Common.{◌≡◌, ◌≤◌, List}
use Rattle.leak_mtrace.specs.declared.line.Line.{Line}
use Rattle.leak_replaying.specs.Replaying.{IsOngoing, left}
use Rattle.leak_replaying.proofs.log_so_far.LogSoFar.fill.Given as goal

abbrev pub invariant-loop-self : goal.invariant-loop-self
invariant-loop-self g l =
    ((first : g.row.R.Denot) (lines : List Line) → IsOngoing g.R.ReadCalls.calls l.limit first l.initial.reader l.initial.self lines l.initial.ongoing
    → (later : List Line) × IsOngoing g.R.ReadCalls.calls l.limit first l.reader l.self later l.ongoing)
    × (l.initial.self.at.bytes ≤ l.self.at.bytes)
    × (l.self.spans ≡ l.initial.self.spans)

abbrev pub decreases-loop-self : goal.decreases-loop-self
decreases-loop-self g l = left l.limit l.self.reading l.self.ended
