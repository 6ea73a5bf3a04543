-- The blocks that were passed have their size words at the place or before it.
use Rattle.std.proofs.Common.{◌-◌, length}
use Rattle.leak_sift.proofs.NearLemmas.{AreBefore}
use Rattle.leak_sift.proofs.near.count_passed.Given as goal

abbrev pub invariant-loop-count : goal.invariant-loop-count
invariant-loop-count l = AreBefore l.blocks l.place l.count

abbrev pub decreases-loop-count : goal.decreases-loop-count
decreases-loop-count l = length l.blocks - l.count
