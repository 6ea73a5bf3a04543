-- From the law of the source.
use Rattle.leak_pool.proofs.target_source.targets_are_blocks.Goals as goal

pub returns : goal.returns
returns g c = λ item b h. g.met.S.TargetSource.inside c.args.source.now item b h
