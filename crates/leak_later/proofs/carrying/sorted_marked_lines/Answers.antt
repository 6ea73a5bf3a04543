-- From the lemmas of LineLemmas.
use Rattle.std.proofs.Common.{◌∙◌, ap, sym, ◌==◌, ℕ, List, Bool, arith, length, ◌<◌, take}
use Rattle.std.specs.List.{list_any}
use Rattle.std.proofs.lemmas.List.{take_all}
use Rattle.std.proofs.lemmas.List.Sorted.{IsNonDecreasingBy-from_sort, list_any-IsPermutation}
use Rattle.leak_blocks.specs.declared.block.Block.{Block}
use Rattle.leak_later.proofs.LineLemmas.{marked_lines, has_marked_lines, marked_pushed, marked_passed}
use Rattle.leak_later.proofs.carrying.sorted_marked_lines.Goals.{then-marked-i+in_ok-push, else-marked-i}
use Rattle.leak_later.proofs.carrying.sorted_marked_lines.Goals as goal

abbrev none : Block
none = record { start = 0; size = 0; line = 0; caller = (0, 0) }

pub loop-i-preserved : goal.loop-i-preserved
loop-i-preserved c =
    let in_set : c.loop-i.i < length c.args.marked.now = omega (arith, c.requires, c.loop-i-test.true) in
    elim c.if-marked-i.branch [
      | then-marked-i+in_ok-push w ↦ marked_pushed c.args.marked.now c.args.blocks.now c.loop-i.i none c.loop-i.lines.items _ in_set c.loop-i-test.true c.loop-i.invariant w.if-marked-i.true (ap (λ v. v.items) w.lines-is ∙ w.in_ok-push.ensures.items)
      | else-marked-i w ↦ ap (λ v. v.items) w.lines-is ∙ marked_passed c.args.marked.now c.args.blocks.now c.loop-i.i none c.loop-i.lines.items in_set c.loop-i-test.true c.loop-i.invariant w.if-marked-i.false
    ]

pub returns-clause-ascending : goal.returns-clause-ascending
returns-clause-ascending c = IsNonDecreasingBy-from_sort (λ n. n) _ c.sort_unstable.ensures.sorted

pub returns-clause-lines : goal.returns-clause-lines
returns-clause-lines c = λ line.
    sym (list_any-IsPermutation (λ (n : ℕ). n == line) _ _ c.sort_unstable.ensures.permutation)
    ∙ ap (λ (xs : List ℕ). list_any (λ n. n == line) xs) (c.loop-i.invariant
    ∙ ap (λ (xs : List Bool). marked_lines xs (take c.loop-i.i c.args.blocks.now)) (take_all c.loop-i.i c.args.marked.now (omega (arith, c.requires, c.loop-i-test.false)))
    ∙ ap (λ (xs : List Block). marked_lines c.args.marked.now xs) (take_all c.loop-i.i c.args.blocks.now c.loop-i-test.false))
    ∙ has_marked_lines c.args.marked.now c.args.blocks.now line
