-- The blocks that were tried are not near the place.
use Rattle.std.proofs.Common.{◌≤◌}
use Rattle.leak_sift.proofs.NearLemmas.{AreFar}
use Rattle.leak_sift.proofs.near.is_near.Given as goal

abbrev pub invariant-loop-left : goal.invariant-loop-left
invariant-loop-left l = record { inside : l.left ≤ l.count; far : AreFar l.blocks l.links l.place l.left }

abbrev pub decreases-loop-left : goal.decreases-loop-left
decreases-loop-left l = l.left
