-- The rows that the map gave so far.
use Rattle.std.proofs.Common.{◌≡◌, map}
use Rattle.leak_report.proofs.grouping.rows_of.Given as goal

abbrev pub invariant-loop-row : goal.invariant-loop-row
invariant-loop-row l = l.rows.items ≡ map (λ row. row.now) l.yielded
