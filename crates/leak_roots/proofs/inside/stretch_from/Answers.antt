-- From the lemmas of LeftOut.
use Rattle.std.proofs.Common.{true≢false, arith, ◌≤◌, ◌<◌, length, get_or, sym, ◌∙◌}
use Rattle.std.proofs.lemmas.Bool.{le-leb, lt-leb}
use Rattle.leak_roots.proofs.LeftOut.{no_span}
use Rattle.leak_roots.proofs.Spans.{all_inside, none_inside, firsts_ascend}
use Rattle.leak_roots.proofs.Few.{span_between}
use Rattle.leak_roots.proofs.inside.stretch_from.Goals as goal
use Rattle.leak_roots.proofs.inside.stretch_from.Goals.{then-inside, else-inside}

pub returns-then-next-spans-clause-alike : goal.returns-then-next-spans-clause-alike
returns-then-next-spans-clause-alike c = λ a l m e.
    none_inside c.args.spans.now c.count_before-next.result no_span a c.requires.apart
    (λ j q o. let w = c.count_before-next.ensures.within j no_span q in omega arith)
    (λ j q o. absurd (omega arith))

pub overflow_sub-words : goal.overflow_sub-words
unfolding no_span
overflow_sub-words c = c.count_before-next.ensures.beyond c.count_before-next.result no_span (omega arith) (omega arith)

pub returns-clause-alike : goal.returns-clause-alike
unfolding no_span
returns-clause-alike c = λ a l m e.
    let k = c.count_before-next.result in
    let in_list : k < length c.args.spans.now = (let b = c.count_before-next.ensures.bound in omega arith) in
    let b = c.count_before-next.ensures.beyond k no_span (omega arith) in_list in
    let f = c.requires.range.from_multiple in
    elim c.if-inside.branch [
      | then-inside w ↦
          all_inside c.args.spans.now k no_span a in_list (let t : (get_or c.args.spans.now k no_span).first ≤ c.args.from = w.if-inside.true in omega arith) (let i = w.words-is in omega arith)
          ∙ sym (le-leb _ _ w.if-inside.true)
      | else-inside w ↦
          none_inside c.args.spans.now k no_span a c.requires.apart
          (λ j q o. let p = c.count_before-next.ensures.within j no_span q in omega arith)
          (λ j q o. let g = firsts_ascend c.args.spans.now k j no_span c.requires.apart q o in let i = w.words-is in let v = w.div_ceil-words.ensures in omega arith)
          ∙ sym (lt-leb _ _ w.if-inside.false)
    ]

pub returns-clause-cut : goal.returns-clause-cut
unfolding no_span
returns-clause-cut c = λ outside early.
    let k = c.count_before-next.result in
    let in_list : k < length c.args.spans.now = (let b = c.count_before-next.ensures.bound in omega arith) in
    let f = c.requires.range.from_multiple in
    let t = c.requires.range.to_multiple in
    elim c.if-inside.branch [
      | then-inside w ↦ absurd (true≢false (sym (le-leb _ _ w.if-inside.true) ∙ outside))
      | else-inside w ↦
          span_between c.args.spans.now c.args.from _ k no_span in_list w.if-inside.false
          (let i = w.words-is in let v = w.div_ceil-words.ensures in let g = w.if-inside.false in omega (arith, i, v, g, early, f, t))
    ]
