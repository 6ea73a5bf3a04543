-- Core by core.
use Rattle.leak_laws.proofs.SameLemmas.{one_signs}
use Rattle.leak_laws.proofs.same.signs_are_one.Goals as goal

pub returns : goal.returns
returns c = one_signs
