-- From the lemma.
use Rattle.leak_blocks.proofs.LineLemmas.{live_addressed}
use Rattle.leak_blocks.proofs.laws.live_are_addressed.Goals as goal

pub returns : goal.returns
returns c = live_addressed
