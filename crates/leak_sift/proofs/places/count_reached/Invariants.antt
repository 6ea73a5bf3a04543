-- The segments that were passed have no byte at the offset nor after it.
use Rattle.std.proofs.Common.{◌-◌, length}
use Rattle.leak_sift.specs.Runs.{IsReached}
use Rattle.leak_sift.proofs.places.count_reached.Given as goal

abbrev pub invariant-loop-count : goal.invariant-loop-count
invariant-loop-count l = IsReached l.segments l.offset l.count

abbrev pub decreases-loop-count : goal.decreases-loop-count
decreases-loop-count l = length l.segments - l.count
