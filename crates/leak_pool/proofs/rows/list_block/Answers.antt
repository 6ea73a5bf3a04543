-- By arithmetic, from what the calls promise.
use Rattle.std.proofs.Common.{subst, ℕ, List, arith}
use Rattle.leak_marks.specs.Lists.{Has}
use Rattle.leak_pool.specs.ScopeLaw.{target_below}
use Rattle.leak_pool.proofs.rows.list_block.Goals as goal

pub list_targets-requires-clause-small : goal.list_targets-requires-clause-small
list_targets-requires-clause-small g c b h =
    let i = target_below (g.L.Lookup.index c.args.lookup.now) _ b (subst (λ (l : List ℕ). Has l b) c.of_block-found.ensures h) in
    omega (arith, i, c.requires.few)
