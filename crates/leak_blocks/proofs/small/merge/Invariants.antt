-- The spans so far were merged.
use Rattle.leak_blocks.proofs.SmallLemmas.{AreMergedAt}
use Rattle.leak_blocks.proofs.small.merge.Given as goal

abbrev pub invariant-loop-next : goal.invariant-loop-next
invariant-loop-next l = AreMergedAt l.initial.spans l.spans l.initial.open l.next l.closed l.open
