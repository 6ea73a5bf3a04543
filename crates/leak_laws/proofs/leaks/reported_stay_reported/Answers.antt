-- Chains reach no more.
use Rattle.leak_laws.proofs.LeakLemmas.{leaked_in_one_stay, leaked_in_two_stay}
use Rattle.leak_laws.proofs.leaks.reported_stay_reported.Goals as goal

pub returns : goal.returns
returns c = record { one = leaked_in_one_stay; two = leaked_in_two_stay }
