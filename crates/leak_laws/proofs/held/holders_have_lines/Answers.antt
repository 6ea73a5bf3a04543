-- From the lemmas.
use Rattle.leak_laws.proofs.HolderReports.{holders_have_lines, lines_are_of_marked}
use Rattle.leak_laws.proofs.held.holders_have_lines.Goals as goal

pub returns : goal.returns
returns c = record { exactly = holders_have_lines; marked = lines_are_of_marked }
