-- From the lemmas of ReadWindowLemmas.
use Rattle.std.proofs.Common.{ℕ, ◌+◌, ◌≡◌, List, [], length, drop, arith, ap, subst, sym}
use Rattle.std.proofs.lemmas.List.{drop_all}
use Rattle.leak_mtrace.specs.declared.line.Line.{Line}
use Rattle.leak_mtrace.specs.Log.{Whole}
use Rattle.leak_mtrace.specs.Parts.{AreLinesOf, moved}
use Rattle.leak_blocks.specs.Windows.{GoesOver}
use Rattle.leak_blocks.proofs.ReadWindowLemmas.{HasGoneOn, are_part, comes_so_far, few_so_far, gone_all, gone_more, gone_next, gone_none, part, part_few, part_fits, part_long}
use Rattle.leak_blocks.proofs.ongoing_replay.OngoingReplay.go_on_read.Goals as goal

pub loop-part-init : goal.loop-part-init
loop-part-init c = λ window read. gone_none window c.args.parts.now c.args.from c.args.self.now read

pub go_over_lines-requires-clause-part : goal.go_over_lines-requires-clause-part
go_over_lines-requires-clause-part c =
    let gone = gone_next c.requires.read.0 c.args.parts.now c.loop-part.part-index c.part-item.result _ _ _ _ c.loop-part-test.true c.part-item.is (c.loop-part.invariant c.requires.read.0 c.requires.read.1) in (
      part _ _ _ _ _ _ _ gone,
      subst (λ (ls : List Line). AreLinesOf (part _ _ _ _ _ _ _ gone) ls) (sym c.lines.ensures.value) (are_part _ _ _ _ _ _ _ gone),
      part_fits _ _ _ _ _ _ _ gone c.requires.read.2,
    )

pub go_over_lines-requires-clause-few : goal.go_over_lines-requires-clause-few
go_over_lines-requires-clause-few c =
    let gone = gone_next c.requires.read.0 c.args.parts.now c.loop-part.part-index c.part-item.result _ _ _ _ c.loop-part-test.true c.part-item.is (c.loop-part.invariant c.requires.read.0 c.requires.read.1) in
    few_so_far _ _ _ _ _ _ _ gone c.requires.few

pub go_over_lines-requires-clause-so_far : goal.go_over_lines-requires-clause-so_far
go_over_lines-requires-clause-so_far c =
    let gone = gone_next c.requires.read.0 c.args.parts.now c.loop-part.part-index c.part-item.result _ _ _ _ c.loop-part-test.true c.part-item.is (c.loop-part.invariant c.requires.read.0 c.requires.read.1) in
    comes_so_far _ _ _ _ _ _ _ gone c.requires.so_far

pub overflow_add-at : goal.overflow_add-at
overflow_add-at c =
    let gone = gone_next c.requires.read.0 c.args.parts.now c.loop-part.part-index c.part-item.result _ _ _ _ c.loop-part-test.true c.part-item.is (c.loop-part.invariant c.requires.read.0 c.requires.read.1) in
    omega (arith, part_fits _ _ _ _ _ _ _ gone c.requires.read.2, part_long _ _ _ _ _ _ _ gone, c.whole_len.ensures)

pub overflow_add-at-in-loop-part : goal.overflow_add-at-in-loop-part
overflow_add-at-in-loop-part c =
    let gone = gone_next c.requires.read.0 c.args.parts.now c.loop-part.part-index c.part-item.result _ _ _ _ c.loop-part-test.true c.part-item.is (c.loop-part.invariant c.requires.read.0 c.requires.read.1) in
    omega (arith, part_fits _ _ _ _ _ _ _ gone c.requires.read.2, part_few _ _ _ _ _ _ _ gone, few_so_far _ _ _ _ _ _ _ gone c.requires.few, ap (length {A = Line}) c.lines-in-loop-part.ensures.value)

pub loop-part-preserved : goal.loop-part-preserved
loop-part-preserved c = λ window read.
    let gone = gone_next window c.args.parts.now c.loop-part.part-index c.part-item.result _ _ _ _ c.loop-part-test.true c.part-item.is (c.loop-part.invariant window read) in
    gone_more _ _ _ _ _ _ _ gone _ _ (ap (λ (n : ℕ). c.loop-part.at.bytes + n) c.whole_len.ensures) (ap (λ (ls : List Line). c.loop-part.at.lines + length ls) c.lines-in-loop-part.ensures.value)
    (subst (λ (ls : List Line). GoesOver c.loop-part.at.lines (moved c.loop-part.at.bytes ls) c.loop-part.self c.go_over_lines.new.self) c.lines.ensures.value c.in_ok-go_over_lines.ensures)

pub returns : goal.returns
returns c = λ window read.
    let none : drop c.loop-part.part-index c.args.parts.now ≡ [] = drop_all c.loop-part.part-index c.args.parts.now (omega (arith, c.loop-part-test.false)) in
    gone_all window c.args.from c.loop-part.at c.args.self.now c.loop-part.self
    (subst (λ (ps : List Whole). HasGoneOn window ps c.args.from c.loop-part.at c.args.self.now c.loop-part.self) none (c.loop-part.invariant window read))
