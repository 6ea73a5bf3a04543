-- From the lemmas of ElsewhereLemmas.
use Rattle.leak_report.proofs.ElsewhereLemmas.{reports_go_by_texts}
use Rattle.leak_report.proofs.laws.reports_go_by_texts.Goals as goal

pub returns : goal.returns
returns c = reports_go_by_texts
