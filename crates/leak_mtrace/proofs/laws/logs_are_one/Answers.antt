-- Line by line.
use Rattle.leak_mtrace.proofs.SameLogLemmas.{logs_are_one}
use Rattle.leak_mtrace.proofs.laws.logs_are_one.Goals as goal

pub returns : goal.returns
returns c = logs_are_one
