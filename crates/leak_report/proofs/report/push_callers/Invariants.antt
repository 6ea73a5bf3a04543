-- The lines of the rows so far.
use Rattle.std.proofs.Common.{◌≡◌, ◌++◌, take, flat_map}
use Rattle.leak_report.specs.Lines.{caller_line}
use Rattle.leak_report.proofs.report.push_callers.Given as goal

abbrev pub invariant-loop-row : goal.invariant-loop-row
invariant-loop-row l = l.out.items ≡ l.initial.out.items ++ flat_map (caller_line l.log) (take l.row-index l.rows)
