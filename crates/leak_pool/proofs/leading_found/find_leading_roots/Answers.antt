-- From the lemma of LeadingLemmas.
use Rattle.std.proofs.lemmas.Result.{IfOk-weaker}
use Rattle.leak_pool.proofs.LeadingLemmas.{leading_found}
use Rattle.leak_pool.proofs.leading_found.find_leading_roots.Goals as goal

pub returns : goal.returns
returns g c =
    let left = c.args.excluded.now in
    IfOk-weaker c.find_where.result _ _ (leading_found (g.L.Lookup.index c.args.lookup.now) left.unwritable left.small.now c.args.image.now c.args.threads.now c.args.live.now.blocks) c.find_where.ensures.found
