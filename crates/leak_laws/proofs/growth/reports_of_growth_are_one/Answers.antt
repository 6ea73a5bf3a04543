-- From the lemma.
use Rattle.leak_laws.proofs.SameGrowth.{one_growth}
use Rattle.leak_laws.proofs.growth.reports_of_growth_are_one.Goals as goal

pub returns : goal.returns
returns c = one_growth
