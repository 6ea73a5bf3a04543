-- From the lemma.
use Rattle.leak_blocks.proofs.DisjointLemmas.{live_disjoint}
use Rattle.leak_blocks.proofs.laws.live_are_disjoint.Goals as goal

pub returns : goal.returns
returns c = live_disjoint
