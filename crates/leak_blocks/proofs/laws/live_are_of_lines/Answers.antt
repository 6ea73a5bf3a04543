-- From the lemma.
use Rattle.leak_blocks.proofs.LineLemmas.{live_of_lines}
use Rattle.leak_blocks.proofs.laws.live_are_of_lines.Goals as goal

pub returns : goal.returns
returns c = live_of_lines
