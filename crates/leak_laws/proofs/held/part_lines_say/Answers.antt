-- From the lemmas.
use Rattle.leak_laws.proofs.PartReports.{by_lines_are_sums, in_lines_are_sums}
use Rattle.leak_laws.proofs.held.part_lines_say.Goals as goal

pub returns : goal.returns
returns c = record { in_lines = in_lines_are_sums; by_lines = by_lines_are_sums }
