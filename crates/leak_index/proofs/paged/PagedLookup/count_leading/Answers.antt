-- A start leads to its block.
use Rattle.std.proofs.Common.{◌≡◌, ◌∙◌, ℕ, ◌<◌, List, [], ◌∷◌, length, ap, subst, arith}
use Rattle.leak_blocks.specs.declared.block.Block.{Block}
use Rattle.leak_blocks.specs.Span.{AreDisjoint}
use Rattle.leak_index.specs.AddressPlaces.{IsOnlyStart}
use Rattle.leak_index.specs.Hits.{Index, hits_of}
use Rattle.leak_index.proofs.Near.{found_only}
use Rattle.leak_index.proofs.paged.PagedLookup.count_leading.Goals as goal

pub returns-in-Rows : goal.returns-in-Rows
unfolding hits_of
returns-in-Rows c =
    let index : Index = c.args.self.now in let blocks : List Block = c.blocks-in-Rows.result.now in
    let same : blocks ≡ index.blocks = c.blocks-in-Rows.ensures.value ∙ ap (λ (i : Index). i.blocks) c.self.view_is in
    c.count_starts.ensures (hits_of index)
    (λ word number only. subst (λ (l : List ℕ). 0 < length l)
    (found_only index.reading index.blocks word number (subst (λ (l : List Block). AreDisjoint l) same c.blocks-in-Rows.ensures.disjoint) (subst (λ (l : List Block). IsOnlyStart l word number) same only))
    (let one : 0 < length (number ∷ []) = omega arith in one))
