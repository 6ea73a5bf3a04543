-- The spans of the blocks so far.
use Rattle.leak_blocks.proofs.SmallLemmas.{AreListedOutside}
use Rattle.leak_blocks.proofs.small.block_spans.Given as goal

abbrev pub invariant-loop-number : goal.invariant-loop-number
invariant-loop-number l = AreListedOutside l.blocks l.live l.number l.spans.items
