-- It goes back.
use Rattle.std.proofs.Common.{◌≤◌}
use Rattle.leak_sift.proofs.near.first_near.Given as goal

abbrev pub invariant-loop-first : goal.invariant-loop-first
invariant-loop-first l = l.first ≤ l.passed

abbrev pub decreases-loop-first : goal.decreases-loop-first
decreases-loop-first l = l.first
