-- By the number of good lines before each.
use Rattle.leak_mtrace.proofs.SameLogLemmas.{first_faults_are_one}
use Rattle.leak_mtrace.proofs.laws.first_faults_are_one.Goals as goal

pub returns : goal.returns
returns c = first_faults_are_one
