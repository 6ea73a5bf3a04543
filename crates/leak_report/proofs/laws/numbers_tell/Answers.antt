-- From the lemmas of NumberLemmas.
use Rattle.leak_report.proofs.NumberLemmas.{numbers_tell}
use Rattle.leak_report.proofs.laws.numbers_tell.Goals as goal

pub returns : goal.returns
returns c = numbers_tell
