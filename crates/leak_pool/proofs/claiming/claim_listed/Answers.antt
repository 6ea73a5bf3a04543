-- From the lemmas of FromLemmas and ScanLemmas.
use Rattle.std.proofs.Common.{subst, sym, ap, List, ℕ, ◌∙◌, ◌++◌, ⊎_elim, inl, inr, get_or, arith}
use Rattle.std.proofs.lemmas.List.{drop_more}
use Rattle.leak_marks.specs.Lists.{Has}
use Rattle.leak_marks.proofs.ElementLemmas.{has_at}
use Rattle.leak_pool.proofs.ScanLemmas.{scanning_none, scanning_more}
use Rattle.leak_pool.proofs.claiming.claim_listed.Goals as goal

pub loop-block-init : goal.loop-block-init
loop-block-init c = scanning_none _ _ c.args.seat.now c.args.list.now.items c.requires.sound (λ b i. i) (λ b h. h)

pub loop-block-preserved : goal.loop-block-preserved
loop-block-preserved c = scanning_more _ _ _ (get_or c.args.targets.now c.loop-block.block-index 0) _ _ c.loop-block.seat c.loop-block.list.items _ _ c.loop-block.invariant
    (drop_more c.args.targets.now c.loop-block.block-index 0 (omega arith))
    c.claim.ensures.same.0 c.claim.ensures.same.1 c.claim.ensures.sound c.claim.ensures.seen
    (λ base e. c.claim.ensures.listed base (e ∙ ap (λ (l : List ℕ). base ++ l) (sym c.reserve.ensures.items)))
    (λ b h. ⊎_elim (λ old. inl (subst (λ (l : List ℕ). Has l b) c.reserve.ensures.items old)) (λ new. inr new) (c.claim.ensures.gained b h))
    (c.claim.ensures.grown.0, c.claim.ensures.grown.1 ∙ ap (λ (l : List ℕ). l ++ c.claim.ensures.grown.0) c.reserve.ensures.items)

pub claim-requires-clause-block : goal.claim-requires-clause-block
claim-requires-clause-block c =
    c.requires.inside _ (has_at c.args.targets.now c.loop-block.block-index 0 (omega arith))
