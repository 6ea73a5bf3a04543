-- From the law of the source and the lemmas of PartLemmas, by arithmetic.
use Rattle.std.proofs.Common.{◌≡◌, ◌∙◌, ℕ, List, [], flat_map, ap, sym, subst, IfOk, arith}
use Rattle.leak_marks.specs.Lists.{Has}
use Rattle.leak_pool.specs.Edges.{AreEdges}
use Rattle.leak_pool.specs.Items.{targets_of_block}
use Rattle.leak_pool.specs.Promises.{IsScanned}
use Rattle.leak_pool.specs.declared.rows.Rows.{Rows}
use Rattle.leak_pool.specs.declared.target_list.TargetList.{TargetList}
use Rattle.leak_pool.specs.declared.target_source.Item.TheVariants.{Block}
use Rattle.leak_pool.proofs.PartLemmas.{of_parts, same_parts}
use Rattle.leak_pool.proofs.edges.EdgesTargetSource.scan_blocks.Goals as goal

pub claim_lists-requires-clause-inside : goal.claim_lists-requires-clause-inside
claim_lists-requires-clause-inside g c b h =
    let edges = c.args.self.now in let targets = g.S.TargetSource.targets edges.source.now in
    let now : TargetList → List ℕ = λ x. x.targets.now in
    let are : AreEdges targets edges.size c.deref.result.now = subst (λ (rows : List Rows). AreEdges targets edges.size rows) (sym c.deref.ensures.value) edges.listed in
    let same : flat_map now c.deref-2.result.now ≡ flat_map (targets_of_block targets) c.args.blocks.now =
    ap (λ (l : List TargetList). flat_map now l) c.deref-2.ensures.value ∙ same_parts now (targets_of_block targets) c.in_ok-lists.lists.items c.args.blocks.now (c.in_ok-lists.ensures targets are c.requires.inside) in
    let of = of_parts (targets_of_block targets) c.args.blocks.now b (subst (λ (l : List ℕ). Has l b) same h) in
    let i = g.met.S.TargetSource.inside edges.source.now (Block of.0) b of.2 in
    omega (arith, i, c.requires.blocks)

pub returns-clause-done : goal.returns-clause-done
returns-clause-done g c =
    let edges = c.args.self.now in let targets = g.S.TargetSource.targets edges.source.now in
    let now : TargetList → List ℕ = λ x. x.targets.now in
    let are : AreEdges targets edges.size c.deref.result.now = subst (λ (rows : List Rows). AreEdges targets edges.size rows) (sym c.deref.ensures.value) edges.listed in
    let same : flat_map now c.deref-2.result.now ≡ flat_map (targets_of_block targets) c.args.blocks.now =
    ap (λ (l : List TargetList). flat_map now l) c.deref-2.ensures.value ∙ same_parts now (targets_of_block targets) c.in_ok-lists.lists.items c.args.blocks.now (c.in_ok-lists.ensures targets are c.requires.inside) in
    subst (λ (l : List ℕ). IfOk c.claim_lists.result (λ _. IsScanned (Has l) [] c.args.seat.now.seen c.args.list.now.items c.claim_lists.new.seat.seen c.claim_lists.new.list.items)) same c.claim_lists.ensures.done
