-- The root words of the segments so far were found, in few ranges.
use Rattle.std.proofs.Common.{length}
use Rattle.leak_elf.specs.Segments.{segments_of}
use Rattle.leak_roots.proofs.BySegment.{AreFound}
use Rattle.leak_roots.proofs.LeftOut.{HasNone}
use Rattle.leak_roots.proofs.Few.{AreGapsFew}
use Rattle.leak_roots.proofs.places.find_ranges.Given as goal

abbrev pub invariant-loop-segment : goal.invariant-loop-segment
invariant-loop-segment g l = record {
  none : HasNone l.spans l.initial.kept;
  found : AreFound (g.T.RangeTest.keeps l.test) l.unwritable l.image l.blocks l.segment-index l.initial.kept l.kept;
  few : AreGapsFew l.unwritable (segments_of l.image) l.blocks l.spans l.segment-index (length l.kept.memory.items);
}
