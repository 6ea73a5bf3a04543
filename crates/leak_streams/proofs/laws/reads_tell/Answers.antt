-- From the lemmas of Consumed.
use Rattle.leak_streams.proofs.Consumed.{reads_tell}
use Rattle.leak_streams.proofs.laws.reads_tell.Goals as goal

pub returns : goal.returns
returns g c = reads_tell g.R.Read.remaining
