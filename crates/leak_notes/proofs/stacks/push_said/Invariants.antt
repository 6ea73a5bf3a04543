-- The answers so far, and those of the entries that are left.
use Rattle.std.proofs.Common.{◌≡◌, ◌++◌, length}
use Rattle.std.specs.Prelude.{filter_map}
use Rattle.leak_notes.specs.Entry.{entries_from}
use Rattle.leak_notes.specs.Stacks.{random_of_entry}
use Rattle.leak_notes.proofs.stacks.push_said.Given as goal

abbrev pub invariant-entries : goal.invariant-entries
invariant-entries l = l.said.items ++ filter_map random_of_entry (entries_from l.entry) ≡ l.initial.said.items ++ filter_map random_of_entry (entries_from (record { offset = l.fn.offset; bytes = l.fn.part }))

abbrev pub decreases-entries : goal.decreases-entries
decreases-entries l = length l.entry.bytes
