-- The words of the range so far were cut.
use Rattle.std.proofs.Common.{◌-◌}
use Rattle.leak_roots.proofs.Cutting.{AreMemoryCut}
use Rattle.leak_roots.proofs.piece.push_memory.Given as goal

abbrev pub invariant-loop-from : goal.invariant-loop-from
invariant-loop-from l = AreMemoryCut l.fn.range l.words l.initial.pieces.items l.pieces.items l.from

abbrev pub decreases-loop-from : goal.decreases-loop-from
decreases-loop-from l = l.end - l.from
