-- A share ends where the next one begins.
use Rattle.std.proofs.Common.{◌+◌, arith}
use Rattle.leak_pool.proofs.HalfLemmas.{share-mono}
use Rattle.leak_pool.proofs.worker.share_of.Goals as goal

pub returns-clause-order : goal.returns-clause-order
returns-clause-order g c =
    let k = c.args.worker in
    let mono = share-mono k (k + 1) c.len-count.result c.search.inside.workers c.search.invariant.some (omega arith) in
    omega (arith, mono, c.share_start-start.ensures.start, c.share_start-end.ensures.start)
