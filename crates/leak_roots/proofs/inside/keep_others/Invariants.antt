-- The places of the ranges so far were added or counted, in few ranges.
use Rattle.std.proofs.Common.{◌≡◌, length}
use Rattle.leak_roots.proofs.LeftOut.{AreAllKept}
use Rattle.leak_roots.proofs.Few.{AreAllFew}
use Rattle.leak_roots.proofs.inside.keep_others.Given as goal

abbrev pub invariant-loop-k : goal.invariant-loop-k
invariant-loop-k l = record {
  same : l.kept.spans.now ≡ l.spans;
  kept : AreAllKept l.spans l.memory l.k l.kept.memory.items l.kept.inside;
  few : AreAllFew l.spans l.memory l.k (length l.kept.memory.items);
}
