-- The words before the address lead nowhere.
use Rattle.std.proofs.Common.{◌≡◌, ◌-◌}
use Rattle.leak_scan.specs.RootWords.{range_without_links}
use Rattle.leak_scan.proofs.root_words.next_held.Given as goal

abbrev pub invariant-loop-hits : goal.invariant-loop-hits
invariant-loop-hits g l = range_without_links (g.W.Words.word_at l.words) (g.L.Lookup.index l.lookup) l.fn.from l.to ≡ range_without_links (g.W.Words.word_at l.words) (g.L.Lookup.index l.lookup) l.at l.to

abbrev pub decreases-loop-hits : goal.decreases-loop-hits
decreases-loop-hits g l = l.to - l.at
