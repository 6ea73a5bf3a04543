-- Logs have one list of lines, and sets of blocks one list of tests.
use Rattle.leak_laws.proofs.SameLemmas.{one_report, two_report}
use Rattle.leak_laws.proofs.same.reports_are_one.Goals as goal

pub returns : goal.returns
returns c = record { one = one_report; two = two_report }
