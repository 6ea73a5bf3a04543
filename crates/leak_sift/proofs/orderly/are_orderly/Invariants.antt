-- The segments so far are orderly.
use Rattle.leak_sift.proofs.OrderLemmas.{AreOrderlyTo}
use Rattle.leak_sift.proofs.orderly.are_orderly.Given as goal

abbrev pub invariant-loop-segment : goal.invariant-loop-segment
invariant-loop-segment l = AreOrderlyTo l.segments l.segment-index l.offset l.filesz
