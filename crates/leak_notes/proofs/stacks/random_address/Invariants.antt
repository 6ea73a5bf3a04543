-- The answers of the parts so far.
use Rattle.std.proofs.Common.{◌≡◌}
use Rattle.leak_notes.specs.Stacks.{random_of_entry}
use Rattle.leak_notes.proofs.PickLemmas.{picked_to}
use Rattle.leak_notes.proofs.stacks.random_address.Given as goal

abbrev pub invariant-loop-i : goal.invariant-loop-i
invariant-loop-i g l = l.said.items ≡ picked_to random_of_entry l.image l.i
