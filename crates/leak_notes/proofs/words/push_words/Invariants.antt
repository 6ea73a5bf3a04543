-- The words so far follow those that were there.
use Rattle.std.proofs.Common.{◌≡◌, ◌++◌}
use Rattle.leak_notes.specs.Entry.{words_from}
use Rattle.leak_notes.proofs.words.push_words.Given as goal

abbrev pub invariant-loop-i : goal.invariant-loop-i
invariant-loop-i l = l.words.items ≡ l.initial.words.items ++ words_from l.bytes l.at l.i
