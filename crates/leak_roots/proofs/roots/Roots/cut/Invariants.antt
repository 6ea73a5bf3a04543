-- The registers and the ranges so far were cut.
use Rattle.leak_roots.proofs.Cutting.{AreFirstCut}
use Rattle.leak_roots.proofs.roots.Roots.cut.Given as goal

abbrev pub invariant-loop-range : goal.invariant-loop-range
invariant-loop-range l = AreFirstCut l.self l.words l.range-index l.pieces.items
