-- What the blocks so far lead to is seen.
use Rattle.std.proofs.Common.{drop}
use Rattle.leak_marks.specs.Lists.{Has}
use Rattle.leak_pool.specs.Promises.{IsScanning}
use Rattle.leak_pool.specs.Scopes.{all_targets}
use Rattle.leak_pool.specs.Tops.{targets_of_blocks}
use Rattle.leak_pool.proofs.scope.ScopeTargetSource.scan_blocks.Given as goal

abbrev pub invariant-loop-block : goal.invariant-loop-block
invariant-loop-block g l =
    let targets = all_targets (g.W.Words.word_at l.self.words.now) (g.L.Lookup.index l.self.lookup.now) in
    IsScanning (Has (targets_of_blocks targets l.blocks)) (targets_of_blocks targets (drop l.block-index l.blocks)) l.initial.seat l.initial.list.items l.seat l.list.items
