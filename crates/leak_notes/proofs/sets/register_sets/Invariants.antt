-- The sets of the parts so far.
use Rattle.std.proofs.Common.{◌≡◌}
use Rattle.leak_notes.specs.Sets.{set_of}
use Rattle.leak_notes.proofs.PickLemmas.{picked_to}
use Rattle.leak_notes.proofs.sets.register_sets.Given as goal

abbrev pub invariant-loop-i : goal.invariant-loop-i
invariant-loop-i g l = l.sets.items ≡ picked_to set_of l.image l.i
