-- What was taken, and what is left of the part.
use Rattle.std.proofs.Common.{length}
use Rattle.leak_notes.specs.Entry.{entries_from}
use Rattle.leak_notes.proofs.Gathering.{Taken}
use Rattle.leak_notes.proofs.threads.Threads.take_part.Given as goal

abbrev pub invariant-loop-entry : goal.invariant-loop-entry
invariant-loop-entry l = Taken (entries_from (record { offset = l.fn.offset; bytes = l.fn.part })) l.initial.self l.self l.entry

abbrev pub decreases-loop-entry : goal.decreases-loop-entry
decreases-loop-entry l = length l.entry.bytes
