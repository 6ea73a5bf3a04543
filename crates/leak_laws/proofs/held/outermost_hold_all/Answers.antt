-- From the lemmas.
use Rattle.leak_laws.proofs.HolderReports.{alone_are_within_none, outermost_hold_marked}
use Rattle.leak_laws.proofs.held.outermost_hold_all.Goals as goal

pub returns : goal.returns
returns c = record { alone = alone_are_within_none; all = outermost_hold_marked }
