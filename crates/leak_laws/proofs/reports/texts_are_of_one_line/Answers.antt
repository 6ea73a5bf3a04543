-- From the lemmas.
use Rattle.leak_laws.proofs.OneLineTexts.{blocks_lack}
use Rattle.leak_laws.proofs.SearchReports.{one_of_lines, two_of_lines}
use Rattle.leak_laws.proofs.reports.texts_are_of_one_line.Goals as goal

pub returns : goal.returns
returns c = record { blocks = blocks_lack; one = one_of_lines; two = two_of_lines }
