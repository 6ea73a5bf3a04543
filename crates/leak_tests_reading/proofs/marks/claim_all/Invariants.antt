-- The seat is of the same table, and no more claims were won than made.
use Rattle.std.proofs.Common.{◌≡◌, ◌≤◌}
use Rattle.leak_tests_reading.proofs.marks.claim_all.Given as goal

abbrev pub invariant-loop-i : goal.invariant-loop-i
invariant-loop-i l = (l.seat.table ≡ l.initial.seat.table) × (l.won ≤ l.i)
