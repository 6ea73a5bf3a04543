-- From the lemmas of EndLemmas.
use Rattle.std.proofs.Common.{◌≡◌}
use Rattle.leak_marks.specs.Lists.{mark_of}
use Rattle.leak_pool.proofs.EndLemmas.{set_none, set_more}
use Rattle.leak_pool.proofs.marking_by_rounds.set_of.Goals as goal

pub loop-block-init : goal.loop-block-init
loop-block-init c = set_none _ c.in_ok-set.set.items c.in_ok-set.ensures.items

pub loop-block-preserved : goal.loop-block-preserved
loop-block-preserved c = set_more c.loop-block.block (λ b. mark_of c.args.words.now b ≡ 1) c.loop-block.set.items _ c.is_marked.result c.loop-block.invariant c.in_ok-push.ensures.items c.is_marked.ensures
