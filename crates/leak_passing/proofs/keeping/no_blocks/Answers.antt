-- An empty log has no live block.
use Rattle.leak_passing.proofs.LogLemmas.{no_blocks}
use Rattle.leak_passing.proofs.keeping.no_blocks.Goals as goal

pub returns-in-Ok : goal.returns-in-Ok
returns-in-Ok c = no_blocks c.in-Ok.replayed c.in-Ok.ensures.ok
