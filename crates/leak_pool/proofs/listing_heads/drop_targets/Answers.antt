-- From the lemmas of HeadLemmas.
use Rattle.std.proofs.Common.{◌≡◌, ◌∙◌, ◌+◌, ℕ, Bool, List, ◌∷◌, drop, get_or, length, ap, sym, refl, arith}
use Rattle.std.proofs.lemmas.List.{drop_more}
use Rattle.leak_marks.proofs.ElementLemmas.{has_at}
use Rattle.leak_scan.specs.Dropped.{after_targets}
use Rattle.leak_pool.proofs.HeadLemmas.{own_stays, target_dropped}
use Rattle.leak_pool.proofs.listing_heads.drop_targets.Goals as goal
use Rattle.leak_pool.proofs.listing_heads.drop_targets.Goals.{then-target-own, else-target-own}

pub bounds-heads-target : goal.bounds-heads-target
bounds-heads-target c =
    let below = c.requires.inside _ (has_at c.args.targets.now c.loop-target.target-index 0 c.loop-target-test.true) in
    omega (arith, below, c.loop-target.auto.heads)

pub loop-target-preserved : goal.loop-target-preserved
loop-target-preserved c b =
    let i = c.loop-target.target-index in
    let target : ℕ = get_or c.args.targets.now i 0 in
    let rest : List ℕ = drop (i + 1) c.args.targets.now in
    let next = ap (λ (ts : List ℕ). after_targets c.loop-target.heads c.args.own ts b) (sym (drop_more c.args.targets.now i 0 c.loop-target-test.true)) ∙ c.loop-target.invariant b in
    let below = c.requires.inside _ (has_at c.args.targets.now i 0 c.loop-target-test.true) in
    elim c.if-target-own.branch [
      | then-target-own w ↦
          ap (λ (hs : List Bool). after_targets hs c.args.own rest b) w.heads-is
          ∙ target_dropped c.loop-target.heads c.args.own target rest b (omega (arith, below, c.loop-target.auto.heads)) w.if-target-own.true ∙ next
      | else-target-own w ↦
          ap (λ (hs : List Bool). after_targets hs c.args.own rest b) w.heads-is
          ∙ own_stays c.loop-target.heads c.args.own target rest b w.if-target-own.false ∙ next
    ]
