-- What is read of a list isn't one of its targets.
use Rattle.std.proofs.Common.{◌∙◌, refl}
use Rattle.std.proofs.Math.Seq.{map-set_same}
use Rattle.leak_pool.specs.declared.target_list.TargetList.{TargetList}
use Rattle.leak_pool.proofs.edges.read_ahead.Goals as goal

pub loop-list-preserved : goal.loop-list-preserved
loop-list-preserved c =
    map-set_same (λ (x : TargetList). x.targets.now) c.loop-list.lists c.loop-list.list-index _ _ refl ∙ c.loop-list.invariant
