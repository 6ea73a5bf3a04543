-- The marks of the numbers so far.
use Rattle.leak_blocks.proofs.SmallLemmas.{AreMarkedBy}
use Rattle.leak_blocks.proofs.small.marks_of.Given as goal

abbrev pub invariant-loop-number : goal.invariant-loop-number
invariant-loop-number l = AreMarkedBy l.count l.numbers l.number-index l.marks.items
