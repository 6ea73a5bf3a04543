-- From the lemma.
use Rattle.leak_blocks.proofs.LiveLemmas.{were_live}
use Rattle.leak_blocks.proofs.laws.live_were_live.Goals as goal

pub returns : goal.returns
returns c = were_live
