-- The registers of the parts so far.
use Rattle.std.proofs.Common.{◌≡◌}
use Rattle.leak_notes.specs.Stacks.{stack_registers_of}
use Rattle.leak_notes.proofs.PickLemmas.{picked_to}
use Rattle.leak_notes.proofs.stacks.stack_registers.Given as goal

abbrev pub invariant-loop-i : goal.invariant-loop-i
invariant-loop-i g l = l.threads.items ≡ picked_to stack_registers_of l.image l.i
