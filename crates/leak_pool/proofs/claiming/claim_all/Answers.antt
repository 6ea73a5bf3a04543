-- From the lemmas of ListLemmas and ScanLemmas.
use Rattle.std.proofs.Common.{subst, sym, ap, List, ℕ, ◌∙◌, ◌++◌, ⊎_elim, inl, inr, arith}
use Rattle.leak_marks.proofs.ListLemmas.{here}
use Rattle.leak_marks.specs.Lists.{Has}
use Rattle.leak_pool.proofs.ScanLemmas.{scanning_none, scanning_more}
use Rattle.leak_pool.proofs.claiming.claim_all.Goals as goal

pub loop-block-init : goal.loop-block-init
loop-block-init g c = scanning_none _ _ c.args.seat.now c.args.list.now.items c.requires.sound (λ b i. i) (λ b h. h)

pub loop-block-preserved : goal.loop-block-preserved
loop-block-preserved g c = scanning_more _ _ _ c.in-Some.block _ _ c.loop-block.seat c.loop-block.list.items _ _ c.loop-block.invariant c.in-Some.ensures.steps
    c.claim.ensures.same.0 c.claim.ensures.same.1 c.claim.ensures.sound c.claim.ensures.seen
    (λ base e. c.claim.ensures.listed base (e ∙ ap (λ (l : List ℕ). base ++ l) (sym c.reserve.ensures.items)))
    (λ b h. ⊎_elim (λ old. inl (subst (λ (l : List ℕ). Has l b) c.reserve.ensures.items old)) (λ new. inr new) (c.claim.ensures.gained b h))
    (c.claim.ensures.grown.0, c.claim.ensures.grown.1 ∙ ap (λ (l : List ℕ). l ++ c.claim.ensures.grown.0) c.reserve.ensures.items)

pub overflow_cast-block : goal.overflow_cast-block
overflow_cast-block g c =
    let h = c.loop-block.invariant.some c.in-Some.block (subst (λ (l : List ℕ). Has l c.in-Some.block) (sym c.in-Some.ensures.steps) (here c.in-Some.block c.next.new.self)) in
    let i = c.requires.inside c.in-Some.block (subst (λ (l : List ℕ). Has l c.in-Some.block) c.into_iter-block-iterator.ensures.into_iter_gives h) in omega (arith, i, c.requires.few)

pub claim-requires-clause-block : goal.claim-requires-clause-block
claim-requires-clause-block g c =
    let h = c.loop-block.invariant.some c.in-Some.block (subst (λ (l : List ℕ). Has l c.in-Some.block) (sym c.in-Some.ensures.steps) (here c.in-Some.block c.next.new.self)) in
    c.requires.inside c.in-Some.block (subst (λ (l : List ℕ). Has l c.in-Some.block) c.into_iter-block-iterator.ensures.into_iter_gives h)
