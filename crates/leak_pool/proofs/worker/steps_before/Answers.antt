use Rattle.std.proofs.Common.{ap}
use Rattle.std.specs.Prelude.{slice_index_or}
use Rattle.leak_pool.specs.SearchModel.{Work}
use Rattle.leak_pool.proofs.worker.steps_before.Goals as goal

pub returns : goal.returns
returns g c = ap (λ (w : Work). slice_index_or w.steps c.args.worker 0) c.round.view_is
