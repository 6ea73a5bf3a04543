-- From the lemmas.
use Rattle.leak_laws.proofs.ReportBytes.{report_is_told}
use Rattle.leak_laws.proofs.ToldLemmas.{read_back}
use Rattle.leak_laws.proofs.reports.reports_read_back.Goals as goal

pub returns : goal.returns
returns c = record { told = report_is_told; one = read_back }
