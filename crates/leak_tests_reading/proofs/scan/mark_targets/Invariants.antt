-- What is still to come are blocks.
use Rattle.std.proofs.Common.{◌<◌, length}
use Rattle.std.specs.List.{AllByRecursion}
use Rattle.leak_tests_reading.proofs.scan.mark_targets.Given as goal

abbrev pub invariant-loop-target : goal.invariant-loop-target
invariant-loop-target g l = AllByRecursion (λ block. block < length l.set) l.target-iterator
