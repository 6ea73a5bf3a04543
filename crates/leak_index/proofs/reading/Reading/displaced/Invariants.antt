-- The values so far are listed, and the first that is too large is among the others.
use Rattle.leak_index.proofs.Listed.{AreListed}
use Rattle.leak_index.proofs.reading.Reading.displaced.Given as goal

abbrev pub invariant-loop-i : goal.invariant-loop-i
invariant-loop-i l = AreListed l.values l.i l.listed
