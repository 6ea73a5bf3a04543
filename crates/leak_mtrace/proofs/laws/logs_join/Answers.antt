-- The lines of what follows, and its first fault, are moved.
use Rattle.leak_mtrace.proofs.PartLemmas.{log_joins, fault_joins}
use Rattle.leak_mtrace.proofs.laws.logs_join.Goals as goal

pub returns-clause-lines : goal.returns-clause-lines
returns-clause-lines c = log_joins

pub returns-clause-fault : goal.returns-clause-fault
returns-clause-fault c = fault_joins
