-- From the lemmas.
use Rattle.leak_laws.proofs.HolderSums.{own_are_marked}
use Rattle.leak_laws.proofs.HolderOrder.{holders_belong}
use Rattle.leak_laws.proofs.held.holders_belong_together.Goals as goal

pub returns : goal.returns
returns c = record { together = holders_belong; own = own_are_marked }
