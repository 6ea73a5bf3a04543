-- From the lemma.
use Rattle.leak_laws.proofs.RunLemmas.{runs_are_one}
use Rattle.leak_laws.proofs.runs.runs_are_one.Goals as goal

pub returns : goal.returns
returns c = runs_are_one
