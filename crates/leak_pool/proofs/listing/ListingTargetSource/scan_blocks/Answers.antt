-- The lists are those of the blocks.
use Rattle.std.proofs.Common.{◌≡◌, ◌∙◌, ℕ, List, [], flat_map, ap, sym, subst, IfOk, arith}
use Rattle.leak_marks.specs.Lists.{Has}
use Rattle.leak_pool.specs.Edges.{AreEdges}
use Rattle.leak_pool.specs.Items.{targets_of_block}
use Rattle.leak_pool.specs.Lists.{lists_in}
use Rattle.leak_pool.specs.ListsLaw.{lists_inside}
use Rattle.leak_pool.specs.Promises.{IsScanned}
use Rattle.leak_pool.specs.declared.rows.Rows.{Rows}
use Rattle.leak_pool.specs.declared.target_list.TargetList.{TargetList}
use Rattle.leak_pool.proofs.PartLemmas.{of_parts, same_parts}
use Rattle.leak_pool.proofs.listing.ListingTargetSource.scan_blocks.Goals as goal

pub claim_lists-requires-clause-inside : goal.claim_lists-requires-clause-inside
claim_lists-requires-clause-inside c b h =
    let l = c.args.self.now in let targets : List (List ℕ) = lists_in l.blocks l.size l.rows.items in
    let now : TargetList → List ℕ = λ x. x.targets.now in
    let are : AreEdges targets l.size c.deref.result.now = subst (λ (rows : List Rows). AreEdges targets l.size rows) (sym c.deref.ensures.value) l.listed in
    let same : flat_map now c.deref-2.result.now ≡ flat_map (targets_of_block targets) c.args.blocks.now =
    ap (λ (ls : List TargetList). flat_map now ls) c.deref-2.ensures.value ∙ same_parts now (targets_of_block targets) c.in_ok-lists.lists.items c.args.blocks.now (c.in_ok-lists.ensures targets are c.requires.inside) in
    let of = of_parts (targets_of_block targets) c.args.blocks.now b (subst (λ (xs : List ℕ). Has xs b) same h) in
    let i = lists_inside l.blocks l.size l.rows.items l.first.items l.inside of.0 b of.2 in
    omega (arith, i, c.requires.blocks)

pub returns-clause-done : goal.returns-clause-done
returns-clause-done c =
    let l = c.args.self.now in let targets : List (List ℕ) = lists_in l.blocks l.size l.rows.items in
    let now : TargetList → List ℕ = λ x. x.targets.now in
    let are : AreEdges targets l.size c.deref.result.now = subst (λ (rows : List Rows). AreEdges targets l.size rows) (sym c.deref.ensures.value) l.listed in
    let same : flat_map now c.deref-2.result.now ≡ flat_map (targets_of_block targets) c.args.blocks.now =
    ap (λ (ls : List TargetList). flat_map now ls) c.deref-2.ensures.value ∙ same_parts now (targets_of_block targets) c.in_ok-lists.lists.items c.args.blocks.now (c.in_ok-lists.ensures targets are c.requires.inside) in
    subst (λ (xs : List ℕ). IfOk c.claim_lists.result (λ _. IsScanned (Has xs) [] c.args.seat.now.seen c.args.list.now.items c.claim_lists.new.seat.seen c.claim_lists.new.list.items)) same c.claim_lists.ensures.done
