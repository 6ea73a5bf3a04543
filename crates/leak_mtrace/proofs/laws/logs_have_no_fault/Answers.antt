-- The faulty line would be good.
use Rattle.leak_mtrace.proofs.SameLogLemmas.{no_fault}
use Rattle.leak_mtrace.proofs.laws.logs_have_no_fault.Goals as goal

pub returns : goal.returns
returns c = no_fault
