-- The sets so far, and those of the entries that are left.
use Rattle.std.proofs.Common.{◌≡◌, ◌++◌, length}
use Rattle.leak_notes.specs.Entry.{entries_from}
use Rattle.leak_notes.specs.Sets.{sets_of}
use Rattle.leak_notes.proofs.sets.push_sets.Given as goal

abbrev pub invariant-entries : goal.invariant-entries
invariant-entries l = l.sets.items ++ sets_of (entries_from l.entry) ≡ l.initial.sets.items ++ sets_of (entries_from (record { offset = l.fn.offset; bytes = l.fn.part }))

abbrev pub decreases-entries : goal.decreases-entries
decreases-entries l = length l.entry.bytes
