-- From the lemmas of Appended.
use Rattle.leak_streams.proofs.Appended.{writes_tell}
use Rattle.leak_streams.proofs.laws.writes_tell.Goals as goal

pub returns : goal.returns
returns g c = writes_tell g.W.Write.contents
