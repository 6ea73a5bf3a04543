-- What was taken, and what is still to come.
use Rattle.std.proofs.Common.{◌≡◌, ◌++◌}
use Rattle.leak_tests_reading.proofs.scan.listed.Given as goal

abbrev pub invariant-loop-target : goal.invariant-loop-target
invariant-loop-target g l = l.all.items ++ l.target-iterator ≡ l.fn.targets
