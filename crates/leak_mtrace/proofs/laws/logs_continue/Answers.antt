-- The lines of the front are those of log 1.
use Rattle.leak_mtrace.proofs.SameLogLemmas.{logs_continue}
use Rattle.leak_mtrace.proofs.laws.logs_continue.Goals as goal

pub returns : goal.returns
returns c = logs_continue
