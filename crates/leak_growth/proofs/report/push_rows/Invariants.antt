-- The lines of the rows so far.
use Rattle.std.proofs.Common.{◌≡◌, ◌++◌, take, flat_map, map}
use Rattle.leak_growth.specs.Rows.{plain}
use Rattle.leak_growth.specs.Lines.{growth_line}
use Rattle.leak_growth.proofs.report.push_rows.Given as goal

abbrev pub invariant-loop-row : goal.invariant-loop-row
invariant-loop-row l = l.out.items ≡ l.initial.out.items ++ flat_map growth_line (map plain (take l.row-index l.rows))
