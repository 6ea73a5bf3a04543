-- The entries of the parts so far were taken.
use Rattle.leak_notes.proofs.Parts.{AreTaken}
use Rattle.leak_notes.proofs.threads.Threads.read.Given as goal

abbrev pub invariant-loop-i : goal.invariant-loop-i
invariant-loop-i g l = AreTaken l.image l.i l.threads
