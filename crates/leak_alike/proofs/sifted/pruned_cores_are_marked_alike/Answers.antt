-- As much is left out of both, and their words lead to the same blocks.
use Rattle.leak_alike.proofs.PrunedLemmas.{marks_of_alike_are_one, pruned_are_alike}
use Rattle.leak_alike.proofs.sifted.pruned_cores_are_marked_alike.Goals as goal

pub returns : goal.returns
returns c = record { marks = marks_of_alike_are_one; alike = pruned_are_alike }
