-- From the lemmas of NumberLemmas and CarryLemmas.
use Rattle.std.proofs.Common.{◌≡◌, ◌∙◌, ap, sym, ℕ, Bool, not, ◌∷◌, [], ◌++◌, if◌then◌else◌, get_or, List, subst, length, ◌<◌, ◌≤◌}
use Rattle.std.proofs.lemmas.List.{take_all}
use Rattle.leak_blocks.specs.declared.block.Block.{Block}
use Rattle.leak_marks.specs.Lists.{has}
use Rattle.leak_later.specs.Kept.{numbers_from, kept_of, absent_of, has_line, has_marked_line}
use Rattle.leak_later.proofs.NumberLemmas.{numbers_kept}
use Rattle.leak_later.proofs.CarryLemmas.{is_carry}
use Rattle.leak_later.proofs.carrying.carry.Goals.{then-is_listed+in_ok-push, else-is_listed, then-not-is_listed+in_ok-push-2, else-not-is_listed}
use Rattle.leak_later.proofs.carrying.carry.Goals as goal

abbrev none : Block
none = record { start = 0; size = 0; line = 0; caller = (0, 0) }

pub loop-number-preserved : goal.loop-number-preserved
loop-number-preserved c =
    let i = c.loop-number.number in
    let before = c.args.earlier.now.blocks in
    let here : c.blocks-block-items.result.now ≡ c.args.later.now.blocks = c.blocks-block-items.ensures.value in
    let in_later : i < length c.args.later.now.blocks = subst (λ (bs : List Block). i < length bs) here c.loop-number-test.true in
    let line : ℕ = (get_or c.args.later.now.blocks i none).line in
    let kept : c.is_listed.result ≡ has_marked_line c.args.marked.now before line =
    c.is_listed.ensures
    ∙ ap (λ (bs : List Block). has c.deref.result.now (get_or bs i none).line) here
    ∙ ap (λ (xs : List ℕ). has xs line) c.deref.ensures.value
    ∙ c.in_ok-marked_lines.ensures.lines line
    ∙ ap (λ (bs : List Block). has_marked_line c.args.marked.now bs line) c.blocks-3.ensures.value in
    let listed : c.is_listed-in-loop-number.result ≡ has_line before line =
    c.is_listed-in-loop-number.ensures
    ∙ ap (λ (bs : List Block). has c.deref-in-loop-number.result.now (get_or bs i none).line) here
    ∙ ap (λ (xs : List ℕ). has xs line) c.deref-in-loop-number.ensures.value
    ∙ c.in_ok-lines.ensures.lines line
    ∙ ap (λ (bs : List Block). has_line bs line) c.blocks-2.ensures.value in
    record {
      kept = numbers_kept (has_marked_line c.args.marked.now before) c.args.later.now.blocks i none c.loop-number.kept.items _ c.is_listed.result in_later c.loop-number.invariant.kept kept
          (elim c.if-is_listed.branch [
            | then-is_listed+in_ok-push w ↦ ap (λ v. v.items) w.kept-is ∙ w.in_ok-push.ensures.items ∙ sym (ap (λ (t : Bool). if t then c.loop-number.kept.items ++ i ∷ [] else c.loop-number.kept.items) w.if-is_listed.true)
            | else-is_listed w ↦ ap (λ v. v.items) w.kept-is ∙ sym (ap (λ (t : Bool). if t then c.loop-number.kept.items ++ i ∷ [] else c.loop-number.kept.items) w.if-is_listed.false)
          ]);
      fresh = numbers_kept (λ n. not (has_line before n)) c.args.later.now.blocks i none c.loop-number.fresh.items _ (not c.is_listed-in-loop-number.result) in_later c.loop-number.invariant.fresh (ap not listed)
          (elim c.if-not-is_listed.branch [
            | then-not-is_listed+in_ok-push-2 w ↦ ap (λ v. v.items) w.fresh-is ∙ w.in_ok-push-2.ensures.items ∙ sym (ap (λ (t : Bool). if t then c.loop-number.fresh.items ++ i ∷ [] else c.loop-number.fresh.items) (ap not w.if-not-is_listed.true))
            | else-not-is_listed w ↦ ap (λ v. v.items) w.fresh-is ∙ sym (ap (λ (t : Bool). if t then c.loop-number.fresh.items ++ i ∷ [] else c.loop-number.fresh.items) (ap not w.if-not-is_listed.false))
          ]);
    }

pub returns-clause-kept : goal.returns-clause-kept
unfolding kept_of
returns-clause-kept c = c.loop-number.invariant.kept ∙ ap (λ (bs : List Block). numbers_from 0 (λ b. has_marked_line c.args.marked.now c.args.earlier.now.blocks b.line) bs) (take_all c.loop-number.number c.args.later.now.blocks (subst (λ (bs : List Block). length bs ≤ c.loop-number.number) c.blocks-block-items.ensures.value c.loop-number-test.false))

pub returns-clause-fresh : goal.returns-clause-fresh
unfolding absent_of
returns-clause-fresh c = c.loop-number.invariant.fresh ∙ ap (λ (bs : List Block). numbers_from 0 (λ b. not (has_line c.args.earlier.now.blocks b.line)) bs) (take_all c.loop-number.number c.args.later.now.blocks (subst (λ (bs : List Block). length bs ≤ c.loop-number.number) c.blocks-block-items.ensures.value c.loop-number-test.false))

pub returns-clause-lists : goal.returns-clause-lists
returns-clause-lists c = is_carry c.args.earlier.now.blocks c.args.marked.now c.args.later.now.blocks _ (returns-clause-kept c) (returns-clause-fresh c)
