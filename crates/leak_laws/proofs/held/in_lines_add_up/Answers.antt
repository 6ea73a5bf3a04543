-- From the lemma.
use Rattle.leak_laws.proofs.PartSums.{in_lines_add_up}
use Rattle.leak_laws.proofs.held.in_lines_add_up.Goals as goal

pub returns : goal.returns
returns c = in_lines_add_up
