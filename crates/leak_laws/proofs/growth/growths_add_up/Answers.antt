-- From the lemma.
use Rattle.leak_laws.proofs.GrowthSums.{growths_add_up}
use Rattle.leak_laws.proofs.growth.growths_add_up.Goals as goal

pub returns : goal.returns
returns c = growths_add_up
