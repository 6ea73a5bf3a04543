-- The words so far on listed pages were counted; with those that are left they are all.
use Rattle.std.proofs.Common.{◌≡◌, ◌≤◌, ◌+◌, ◌-◌, length}
use Rattle.leak_scan.specs.Positions.{words_from}
use Rattle.leak_later.proofs.CountLemmas.{on_pages}
use Rattle.leak_later.proofs.rereading.count_on.Given as goal

abbrev pub invariant-loop-start : goal.invariant-loop-start
invariant-loop-start g l = record {
  end : l.end ≡ l.block.start + (l.block.size - 7);
  low : l.block.start ≤ l.at;
  order : l.at ≤ l.end;
  sum : l.count + length (words_from (on_pages (g.W.Words.word_at l.words) l.pages) l.at (l.end - l.at)) ≡ length (words_from (on_pages (g.W.Words.word_at l.words) l.pages) l.block.start (l.end - l.block.start));
}

abbrev pub decreases-loop-start : goal.decreases-loop-start
decreases-loop-start g l = l.end - l.at
