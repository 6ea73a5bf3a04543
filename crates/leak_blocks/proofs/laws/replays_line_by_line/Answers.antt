-- From the lemma.
use Rattle.leak_blocks.proofs.GrowthLemmas.{line_by_line}
use Rattle.leak_blocks.proofs.laws.replays_line_by_line.Goals as goal

pub returns : goal.returns
returns c = line_by_line
