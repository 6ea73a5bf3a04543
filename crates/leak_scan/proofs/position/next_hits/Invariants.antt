-- What was passed leads nowhere.
use Rattle.std.proofs.Common.{◌≡◌}
use Rattle.std.specs.Option.{option_copied}
use Rattle.leak_scan.specs.Positions.{listed_word, words_left}
use Rattle.leak_scan.specs.Targets.{targets_of}
use Rattle.leak_scan.proofs.position.next_hits.Given as goal

abbrev pub invariant-loop-hits : goal.invariant-loop-hits
invariant-loop-hits g l =
    let f = listed_word (g.W.Words.word_at l.words) (option_copied l.pages) in
    let index = g.L.Lookup.index l.lookup in
    targets_of index (words_left f l.fn.position.list.now l.fn.position.run.now l.fn.position.from l.fn.position.count) ≡ targets_of index (words_left f l.position.list.now l.position.run.now l.position.from l.position.count)

abbrev pub decreases-loop-hits : goal.decreases-loop-hits
decreases-loop-hits g l = l.position.count
