-- From the lemmas.
use Rattle.leak_laws.proofs.SearchReports.{check_adds, check_adds_of_two}
use Rattle.leak_laws.proofs.reports.check_adds_misfits.Goals as goal

pub returns : goal.returns
returns c = record { one = check_adds; two = check_adds_of_two }
