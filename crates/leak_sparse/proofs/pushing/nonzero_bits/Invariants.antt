-- The bits of the words that were read. Those that are left begin somewhere.
use Rattle.std.proofs.Common.{ℕ}
use Rattle.leak_sparse.proofs.PushedLemmas.{AreNonzeroTo}
use Rattle.leak_sparse.proofs.RestLemmas.{AreRest}
use Rattle.leak_sparse.proofs.pushing.nonzero_bits.Given as goal

abbrev pub invariant-loop-rest : goal.invariant-loop-rest
invariant-loop-rest l = record { from : ℕ; left : AreRest l.bits l.rest from; bits : AreNonzeroTo l.bits l.words l.nonzero from }

abbrev pub decreases-loop-rest : goal.decreases-loop-rest
decreases-loop-rest l = l.rest
