-- One line more, of which the block is held if it allocates one.
use Rattle.std.proofs.Common.{◌∙◌, arith}
use Rattle.leak_blocks.proofs.ReadLemmas.{counts_more, read_more}
use Rattle.leak_blocks.proofs.ongoing_replay.OngoingReplay.read_on.Goals as goal

pub returns-then-is_full-clause-after : goal.returns-then-is_full-clause-after
returns-then-is_full-clause-after c =
    read_more _ _ _ _ c.in-Some.line _ _ c.loop-line.invariant.0 c.in-Some.is (c.in_ok-line.ensures.next _ c.loop-line.invariant.0.read) c.count.ensures c.in_ok-step.ensures.after c.in_ok-step.ensures.allocated

pub loop-line-preserved : goal.loop-line-preserved
loop-line-preserved c = (
  read_more _ _ _ _ c.in-Some.line _ _ c.loop-line.invariant.0 c.in-Some.is (c.in_ok-line.ensures.next _ c.loop-line.invariant.0.read) c.count.ensures c.in_ok-step.ensures.after c.in_ok-step.ensures.allocated,
  c.next_line.ensures.bytes ∙ c.loop-line.invariant.1,
  omega (arith, counts_more _ _ _ c.in-Some.line _ c.loop-line.invariant.0.read c.in-Some.is (c.in_ok-line.ensures.next _ c.loop-line.invariant.0.read), c.loop-line.invariant.2),
)
