-- The words so far were counted; with those that are left they are all.
use Rattle.std.proofs.Common.{◌≡◌, ◌+◌, ◌-◌, length}
use Rattle.leak_scan.specs.Positions.{words_from}
use Rattle.leak_later.proofs.rereading.count_in.Given as goal

abbrev pub invariant-loop-addr : goal.invariant-loop-addr
invariant-loop-addr g l = l.count + length (words_from (g.W.Words.word_at l.words) l.at (l.end - l.at)) ≡ length (words_from (g.W.Words.word_at l.words) l.from (l.end - l.from))

abbrev pub decreases-loop-addr : goal.decreases-loop-addr
decreases-loop-addr g l = l.end - l.at
