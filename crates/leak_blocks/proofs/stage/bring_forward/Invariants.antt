-- The first blocks are at their places.
use Rattle.leak_blocks.proofs.GatherLemmas.{AreForward}
use Rattle.leak_blocks.proofs.stage.bring_forward.Given as goal

abbrev pub invariant-loop-place : goal.invariant-loop-place
invariant-loop-place l = AreForward l.initial.allocated l.allocated l.numbers l.place
