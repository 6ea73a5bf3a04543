-- An item leads to what is listed for it.
use Rattle.std.proofs.Common.{◌≡◌, ◌∙◌, ◌<◌, ℕ, List, [], ◌∷◌, length, get_or, ap, subst, sym, arith}
use Rattle.std.proofs.lemmas.Grind.{get_or_default_zero}
use Rattle.leak_marks.specs.Lists.{Has}
use Rattle.leak_pool.specs.Edges.{AreEdges}
use Rattle.leak_pool.specs.Items.{IsItem}
use Rattle.leak_pool.specs.Lists.{each_alone, lists_in}
use Rattle.leak_pool.specs.ListsLaw.{items_inside, lists_inside}
use Rattle.leak_pool.specs.declared.rows.Rows.{Rows}
use Rattle.leak_pool.specs.declared.target_source.Item.{Item}
use Rattle.leak_pool.specs.declared.target_source.Item.TheVariants.{Block, Root}
use Rattle.leak_pool.proofs.ListingLemmas.{long_alone, one_alone}
use Rattle.leak_pool.proofs.listing.ListingTargetSource.scan.Goals as goal

pub claim_listed-requires-clause-inside : goal.claim_listed-requires-clause-inside
claim_listed-requires-clause-inside c b h =
    let l = c.args.self.now in let targets : List (List ℕ) = lists_in l.blocks l.size l.rows.items in
    let below : c.in-Root.place < length (each_alone l.first.items) = subst (IsItem (each_alone l.first.items) targets) c.in-Root.is c.requires.item in
    let at : c.index.result.now ≡ get_or l.first.items c.in-Root.place 0 =
    c.index.ensures ∙ get_or_default_zero l.first.items c.in-Root.place c.index.result.now (let long = long_alone l.first.items in omega (arith, below, long)) in
    let one : c.index.result.now ∷ [] ≡ get_or (each_alone l.first.items) c.in-Root.place [] = ap (λ (x : ℕ). x ∷ []) at ∙ one_alone l.first.items c.in-Root.place below in
    let i = items_inside l.blocks l.size l.rows.items l.first.items l.inside (Root c.in-Root.place) b (subst (λ (xs : List ℕ). Has xs b) one h) in
    omega (arith, i, c.requires.blocks)

pub claim_listed-requires-in-Block-clause-inside : goal.claim_listed-requires-in-Block-clause-inside
claim_listed-requires-in-Block-clause-inside c b h =
    let l = c.args.self.now in let targets : List (List ℕ) = lists_in l.blocks l.size l.rows.items in
    let below : c.in-Block.block < length targets = subst (IsItem (each_alone l.first.items) targets) c.in-Block.is c.requires.item in
    let are : AreEdges targets l.size c.deref.result.now = subst (λ (rows : List Rows). AreEdges targets l.size rows) (sym c.deref.ensures.value) l.listed in
    let i = lists_inside l.blocks l.size l.rows.items l.first.items l.inside c.in-Block.block b (subst (λ (xs : List ℕ). Has xs b) (c.listed_targets-targets.ensures targets are below) h) in
    omega (arith, i, c.requires.blocks)
