-- The bits of the blocks that were tried or are off.
use Rattle.std.proofs.Common.{◌≤◌, ◌-◌, length}
use Rattle.leak_sift.proofs.NearBitLemmas.{AreNearTo}
use Rattle.leak_sift.proofs.near.near_bits.Given as goal

abbrev pub invariant-loop-next : goal.invariant-loop-next
invariant-loop-next l = record {
  within : l.next ≤ length l.fn.blocks;
  bits : AreNearTo l.fn.blocks l.fn.links l.fn.place l.bits l.next;
}

abbrev pub decreases-loop-next : goal.decreases-loop-next
decreases-loop-next l = length l.fn.blocks - l.next
