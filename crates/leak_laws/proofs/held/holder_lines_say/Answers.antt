-- From the lemma.
use Rattle.leak_laws.proofs.HolderReports.{lines_are_said}
use Rattle.leak_laws.proofs.held.holder_lines_say.Goals as goal

pub returns : goal.returns
returns c = lines_are_said
