-- Before the first line there are no blocks.
use Rattle.leak_blocks.proofs.StepLemmas.{numbered_none}
use Rattle.leak_blocks.proofs.stage.Stage.new.Goals as goal

pub returns-clause-after : goal.returns-clause-after
returns-clause-after c = numbered_none _ _ c.in_ok-with_capacity.ensures.items c.in_ok-with_capacity-2.ensures.items
