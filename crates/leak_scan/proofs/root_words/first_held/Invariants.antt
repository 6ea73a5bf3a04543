-- The words before the rest of the run lead nowhere.
use Rattle.std.proofs.Common.{◌≡◌, ◌≤◌, length}
use Rattle.leak_elf.specs.Words.{IsRun}
use Rattle.leak_scan.specs.RootWords.{range_without_links}
use Rattle.leak_scan.proofs.root_words.first_held.Given as goal

abbrev pub invariant-loop-rest : goal.invariant-loop-rest
invariant-loop-rest g l = record {
  on : l.fn.from ≤ l.at;
  same : range_without_links (g.W.Words.word_at l.words) (g.L.Lookup.index l.lookup) l.fn.from l.to ≡ range_without_links (g.W.Words.word_at l.words) (g.L.Lookup.index l.lookup) l.at l.to;
  run : IsRun (g.W.Words.word_at l.words) l.at l.rest;
}

abbrev pub decreases-loop-rest : goal.decreases-loop-rest
decreases-loop-rest g l = length l.rest
