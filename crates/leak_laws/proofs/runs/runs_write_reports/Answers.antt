-- From the lemma.
use Rattle.leak_laws.proofs.RunLemmas.{runs_write_reports}
use Rattle.leak_laws.proofs.runs.runs_write_reports.Goals as goal

pub returns : goal.returns
returns c = runs_write_reports
