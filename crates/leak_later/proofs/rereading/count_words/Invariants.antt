-- The words of the blocks so far were counted.
use Rattle.std.proofs.Common.{◌≡◌, take}
use Rattle.leak_later.specs.Differing.{reread_of}
use Rattle.leak_later.proofs.rereading.count_words.Given as goal

abbrev pub invariant-loop-number : goal.invariant-loop-number
invariant-loop-number g l = l.count ≡ reread_of (g.W.Words.word_at l.words) l.pages l.blocks (take l.number-index l.numbers)
