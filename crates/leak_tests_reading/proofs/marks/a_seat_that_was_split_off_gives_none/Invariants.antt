-- The first seat is of the table.
use Rattle.std.proofs.Common.{◌≡◌}
use Rattle.leak_tests_reading.proofs.marks.a_seat_that_was_split_off_gives_none.Given as goal

abbrev pub invariant-loop : goal.invariant-loop
invariant-loop g l = l.first.table ≡ l.marks.table
