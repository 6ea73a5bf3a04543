-- From the lemma.
use Rattle.leak_blocks.proofs.LiveLemmas.{one_a_line}
use Rattle.leak_blocks.proofs.laws.live_are_one_a_line.Goals as goal

pub returns : goal.returns
returns c = one_a_line
