-- The places before the cursor were added, in few ranges.
use Rattle.std.proofs.Common.{◌-◌, length}
use Rattle.leak_roots.proofs.LeftOut.{AreKept}
use Rattle.leak_roots.proofs.Few.{AreFew}
use Rattle.leak_roots.proofs.inside.Kept.push.Given as goal

abbrev pub invariant-loop-from : goal.invariant-loop-from
invariant-loop-from g l = record {
  kept : AreKept (g.T.RangeTest.keeps l.test) l.fn.range l.initial.self l.self l.from;
  few : AreFew l.initial.self.spans.now l.fn.range (length l.initial.self.memory.items) (length l.self.memory.items) l.from;
}

abbrev pub decreases-loop-from : goal.decreases-loop-from
decreases-loop-from g l = l.to - l.from
