-- Those from here on are at their own places.
use Rattle.std.proofs.Common.{◌≤◌, drop, length}
use Rattle.leak_blocks.specs.Numbers.{CountUp}
use Rattle.leak_blocks.proofs.stage.moved.Given as goal

abbrev pub invariant-loop-moved : goal.invariant-loop-moved
invariant-loop-moved l = (l.moved ≤ length l.numbers) × CountUp l.moved (drop l.moved l.numbers)

abbrev pub decreases-loop-moved : goal.decreases-loop-moved
decreases-loop-moved l = l.moved
