-- From the lemmas.
use Rattle.leak_laws.proofs.SameHeld.{one_answer, one_holders}
use Rattle.leak_laws.proofs.held.reports_of_holders_are_one.Goals as goal

pub returns : goal.returns
returns c = record { holders = one_holders; chosen = one_answer }
