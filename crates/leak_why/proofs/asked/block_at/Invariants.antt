-- None of the blocks so far is asked for.
use Rattle.leak_why.specs.Asked.{AreNotAsked}
use Rattle.leak_why.proofs.asked.block_at.Given as goal

abbrev pub invariant-loop-i : goal.invariant-loop-i
invariant-loop-i l = AreNotAsked l.live.blocks l.address l.i
