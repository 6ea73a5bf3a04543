-- The rows of the texts so far.
use Rattle.std.proofs.Common.{◌≡◌, filter, take}
use Rattle.leak_growth.specs.Rows.{is_changed, rows_with}
use Rattle.leak_growth.proofs.rows.changed_rows.Given as goal

abbrev pub invariant-loop-i : goal.invariant-loop-i
invariant-loop-i l = l.rows.items ≡ filter is_changed (rows_with (take l.i l.texts) (take l.i l.earlier) (take l.i l.later) (take l.i l.new))
