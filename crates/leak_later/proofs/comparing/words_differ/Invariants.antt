-- None of the words so far has changed.
use Rattle.std.proofs.Common.{◌≡◌, ℕ, ◌+◌, ◌*◌, ◌<◌, false}
use Rattle.leak_elf.specs.Words.{word_of}
use Rattle.leak_later.specs.Differing.{is_changed}
use Rattle.leak_later.proofs.comparing.words_differ.Given as goal

abbrev pub invariant-loop-k : goal.invariant-loop-k
invariant-loop-k g l = (j : ℕ) → j < l.k → is_changed (word_of l.first (4096 * l.page + 8 * j)) (word_of l.second (4096 * l.page + 8 * j)) ≡ false
