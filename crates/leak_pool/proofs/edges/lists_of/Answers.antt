-- From the lemmas of FromLemmas, by the lists so far.
use Rattle.std.proofs.Common.{◌∙◌, ap, sym, ℕ, List, [], ◌∷◌, ◌++◌, map, take, get_or}
use Rattle.std.proofs.lemmas.List.{map-append, take_more}
use Rattle.leak_pool.specs.Items.{targets_of_block}
use Rattle.leak_pool.specs.declared.target_list.TargetList.{TargetList}
use Rattle.leak_pool.proofs.edges.lists_of.Goals as goal
use Rattle.leak_marks.proofs.ElementLemmas.{has_at}

pub target_list-requires : goal.target_list-requires
target_list-requires c =
    (c.requires.0, c.requires.1, c.requires.2 _ (has_at c.args.blocks.now c.loop-block.block-index 0 c.loop-block-test.true))

pub loop-block-preserved : goal.loop-block-preserved
loop-block-preserved c targets are inside =
    let now : TargetList → List ℕ = λ x. x.targets.now in let led = targets_of_block targets in
    let blocks = c.args.blocks.now in let i = c.loop-block.block-index in let block : ℕ = get_or blocks i 0 in
    ap (λ (l : List TargetList). map now l) c.in_ok-push.ensures.items
    ∙ map-append now c.loop-block.lists.items (c.target_list.result ∷ [])
    ∙ ap (λ (l : List (List ℕ)). l ++ now c.target_list.result ∷ []) (c.loop-block.invariant targets are inside)
    ∙ ap (λ (t : List ℕ). map led (take i blocks) ++ t ∷ []) (c.target_list.ensures targets are (inside block (has_at blocks i 0 c.loop-block-test.true)))
    ∙ sym (map-append led (take i blocks) (block ∷ []))
    ∙ ap (λ (l : List ℕ). map led l) (sym (take_more blocks i 0 c.loop-block-test.true))
