-- From the lemmas of Callers.
use Rattle.leak_report.proofs.Callers.{have_callers}
use Rattle.leak_report.proofs.laws.live_have_callers.Goals as goal

pub returns : goal.returns
returns c = have_callers c.live_are_of_lines.ensures
