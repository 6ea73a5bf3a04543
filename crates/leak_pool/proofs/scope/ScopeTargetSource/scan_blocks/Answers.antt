-- From the lemmas of FromLemmas, PartLemmas and ScanLemmas.
use Rattle.std.proofs.Common.{◌+◌, drop, get_or}
use Rattle.leak_pool.specs.Items.{targets_of_block}
use Rattle.leak_pool.specs.Scopes.{all_targets}
use Rattle.leak_pool.specs.Tops.{targets_of_blocks}
use Rattle.leak_pool.proofs.PartLemmas.{next_part}
use Rattle.leak_pool.proofs.ScanLemmas.{scanning_part}
use Rattle.leak_pool.proofs.scope.ScopeTargetSource.scan_blocks.Goals as goal
use Rattle.leak_marks.proofs.ElementLemmas.{has_at}

pub scan-requires-clause-item : goal.scan-requires-clause-item
scan-requires-clause-item g c = c.requires.inside _ (has_at c.args.blocks.now c.loop-block.block-index 0 c.loop-block-test.true)

pub loop-block-preserved : goal.loop-block-preserved
loop-block-preserved g c =
    let targets = all_targets (g.W.Words.word_at c.args.self.now.words.now) (g.L.Lookup.index c.args.self.now.lookup.now) in
    let i = c.loop-block.block-index in let blocks = c.args.blocks.now in
    scanning_part _ _ (targets_of_block targets (get_or blocks i 0)) (targets_of_blocks targets (drop (i + 1) blocks)) _ _ c.loop-block.seat c.loop-block.list.items _ _ c.loop-block.invariant
    (next_part (targets_of_block targets) 0 blocks i c.loop-block-test.true) c.scan.ensures.same.0 c.scan.ensures.same.1 c.scan.ensures.sound c.scan.ensures.listed
    c.in_ok-scan.ensures.done
