-- The pages so far that differ.
use Rattle.std.proofs.Common.{◌≡◌, ◌-◌, ◌≤◌, max, filter}
use Rattle.std.specs.List.{range_with_len}
use Rattle.leak_elf.specs.Words.{word_of}
use Rattle.leak_later.specs.Differing.{differs}
use Rattle.leak_later.proofs.comparing.differing_in.Given as goal

abbrev pub invariant-loop-page : goal.invariant-loop-page
invariant-loop-page g l = record {
  low : l.from ≤ l.page;
  high : l.page ≤ max l.from l.to;
  pages : l.pages.items ≡ filter (differs (word_of l.first) (word_of l.second)) (range_with_len l.from (l.page - l.from));
}

abbrev pub decreases-loop-page : goal.decreases-loop-page
decreases-loop-page g l = l.to - l.page
