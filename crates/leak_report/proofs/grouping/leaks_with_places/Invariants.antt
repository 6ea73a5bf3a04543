-- The leaked blocks so far, with their places.
use Rattle.leak_report.proofs.Listed.{AreFirst}
use Rattle.leak_report.proofs.grouping.leaks_with_places.Given as goal

abbrev pub invariant-loop-number : goal.invariant-loop-number
invariant-loop-number l = AreFirst l.prefix l.log l.leaks l.number l.placed.items
