-- From the lemmas of HalfLemmas.
use Rattle.std.proofs.Common.{arith}
use Rattle.leak_pool.proofs.HalfLemmas.{share_is, share_within}
use Rattle.leak_pool.proofs.worker.share_start.Goals as goal

pub returns-clause-start : goal.returns-clause-start
returns-clause-start c = share_is c.args.worker c.args.items c.args.workers c.requires.some

pub returns-clause-within : goal.returns-clause-within
returns-clause-within c = let e = share_is c.args.worker c.args.items c.args.workers c.requires.some in let w = share_within c.args.worker c.args.items c.args.workers c.requires.some c.requires.worker in omega arith
