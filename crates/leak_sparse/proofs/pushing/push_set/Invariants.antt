-- The words of the bits that were passed are there. The bits that are left begin somewhere.
use Rattle.std.proofs.Common.{◌≡◌, ℕ, ◌+◌, ◌%◌, ◌^◌, count_ones, vec_len, vec_capacity}
use Rattle.leak_sparse.proofs.PushedLemmas.{ArePushedTo}
use Rattle.leak_sparse.proofs.RestLemmas.{AreRest}
use Rattle.leak_sparse.proofs.pushing.push_set.Given as goal

abbrev pub invariant-loop-rest : goal.invariant-loop-rest
invariant-loop-rest l = record {
  from : ℕ;
  left : AreRest l.bits l.rest from;
  words : ArePushedTo l.bits l.words l.fn.kept.items l.kept.items from;
  count : vec_len l.kept ≡ vec_len l.fn.kept + count_ones (l.bits % 2 ^ from);
  room : vec_capacity l.kept ≡ vec_capacity l.fn.kept;
}

abbrev pub decreases-loop-rest : goal.decreases-loop-rest
decreases-loop-rest l = l.rest
