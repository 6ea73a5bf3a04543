-- From the lemmas of TellLemmas.
use Rattle.leak_find.proofs.TellLemmas.{runs_tell}
use Rattle.leak_find.proofs.laws.runs_tell.Goals as goal

pub returns : goal.returns
returns g c = runs_tell g.R.Read.remaining g.W.Write.contents g.V.Write.contents
