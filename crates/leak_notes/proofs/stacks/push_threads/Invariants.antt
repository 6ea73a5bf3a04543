-- The registers so far, and those of the entries that are left.
use Rattle.std.proofs.Common.{◌≡◌, ◌++◌, length}
use Rattle.std.specs.Prelude.{filter_map}
use Rattle.leak_notes.specs.Entry.{entries_from}
use Rattle.leak_notes.specs.Stacks.{stack_registers_of}
use Rattle.leak_notes.proofs.stacks.push_threads.Given as goal

abbrev pub invariant-entries : goal.invariant-entries
invariant-entries l = l.threads.items ++ filter_map stack_registers_of (entries_from l.entry) ≡ l.initial.threads.items ++ filter_map stack_registers_of (entries_from (record { offset = l.fn.offset; bytes = l.fn.part }))

abbrev pub decreases-entries : goal.decreases-entries
decreases-entries l = length l.entry.bytes
