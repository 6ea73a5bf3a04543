-- From the lemmas of ListLemmas.
use Rattle.std.proofs.Common.{◌<◌, ℕ, List, get_or, take, sym, subst, ⊎_elim, arith}
use Rattle.std.proofs.lemmas.List.{take_all, take_more}
use Rattle.leak_marks.specs.Lists.{Has}
use Rattle.leak_marks.proofs.ListLemmas.{none_has, of_push}
use Rattle.leak_tests_marking.proofs.lists.are_blocks.Goals as goal

pub loop-target-init : goal.loop-target-init
loop-target-init c b h = absurd (none_has b h)

pub loop-target-preserved : goal.loop-target-preserved
loop-target-preserved c b h =
    let ts = c.args.targets.now in
    let i = c.loop-target.target-index in
    let low : get_or ts i 0 < c.args.blocks = omega arith in
    ⊎_elim (λ k. c.loop-target.invariant b k) (λ e. subst (λ (x : ℕ). x < c.args.blocks) (sym e) low)
    (of_push (take i ts) (get_or ts i 0) b (subst (λ (l : List ℕ). Has l b) (take_more ts i 0 (omega arith)) h))

pub returns : goal.returns
returns c t b h = c.loop-target.invariant b (subst (λ (l : List ℕ). Has l b) (sym (take_all c.loop-target.target-index c.args.targets.now (let e = c.loop-target-test.false in omega arith))) h)
