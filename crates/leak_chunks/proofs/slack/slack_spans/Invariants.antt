-- The slack of the blocks so far.
use Rattle.std.proofs.Common.{◌≡◌}
use Rattle.leak_chunks.proofs.SlackLemmas.{AreSlackOf}
use Rattle.leak_chunks.proofs.slack.slack_spans.Given as goal

abbrev pub invariant-loop-block : goal.invariant-loop-block
invariant-loop-block g l = (l.near.words.now ≡ l.words) × AreSlackOf (g.W.Words.word_at l.words) l.blocks l.block-index l.spans.items
