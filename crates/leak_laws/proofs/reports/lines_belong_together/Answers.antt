-- From the lemmas.
use Rattle.leak_laws.proofs.SearchReports.{of_one, of_two}
use Rattle.leak_laws.proofs.reports.lines_belong_together.Goals as goal

pub returns : goal.returns
returns c = record { one = of_one; two = of_two }
