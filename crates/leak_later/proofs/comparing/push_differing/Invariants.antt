-- The pages so far that differ were added.
use Rattle.std.proofs.Common.{◌≡◌, ◌++◌, filter}
use Rattle.std.specs.List.{range_with_len}
use Rattle.leak_elf.specs.Words.{word_of}
use Rattle.leak_later.specs.Differing.{differs}
use Rattle.leak_later.proofs.comparing.push_differing.Given as goal

abbrev pub invariant-loop-k : goal.invariant-loop-k
invariant-loop-k g l = l.pages.items ≡ l.fn.pages.items ++ filter (differs (word_of l.first) (word_of l.second)) (range_with_len l.page l.k)
