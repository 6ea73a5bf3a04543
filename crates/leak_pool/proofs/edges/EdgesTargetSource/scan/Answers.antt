-- From the law of the source, by arithmetic.
use Rattle.std.proofs.Common.{List, ℕ, subst, sym, arith}
use Rattle.leak_marks.specs.Lists.{Has}
use Rattle.leak_pool.specs.Items.{IsItem}
use Rattle.leak_pool.specs.Edges.{AreEdges}
use Rattle.leak_pool.specs.declared.rows.Rows.{Rows}
use Rattle.leak_pool.specs.declared.target_source.Item.TheVariants.{Block}
use Rattle.leak_pool.proofs.edges.EdgesTargetSource.scan.Goals as goal

pub claim_listed-requires-clause-inside : goal.claim_listed-requires-clause-inside
claim_listed-requires-clause-inside g c b h =
    let edges = c.args.self.now in
    let i = g.met.S.TargetSource.inside edges.source.now (Block c.in-Block.block) b
    (subst (λ (l : List ℕ). Has l b) (c.listed_targets.ensures (g.S.TargetSource.targets edges.source.now) (subst (λ (rows : List Rows). AreEdges (g.S.TargetSource.targets edges.source.now) edges.size rows) (sym c.deref.ensures.value) edges.listed) (subst (IsItem (g.S.TargetSource.roots edges.source.now) (g.S.TargetSource.targets edges.source.now)) c.in-Block.is c.requires.item)) h) in
    omega (arith, i, c.requires.blocks)
