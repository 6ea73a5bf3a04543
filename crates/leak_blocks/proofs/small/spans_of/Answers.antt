-- From the lemmas of SmallLemmas.
use Rattle.std.proofs.Common.{◌||◌, ap, sym, ◌∙◌}
use Rattle.leak_mtrace.specs.declared.line.Line.{Line}
use Rattle.leak_mtrace.specs.declared.line.Kind.TheVariants.{Alloc}
use Rattle.leak_blocks.specs.declared.small.Span.{Span}
use Rattle.leak_blocks.specs.Small.{is_small, span_of, small_spans_of, holds, is_covered}
use Rattle.leak_blocks.proofs.SmallLemmas.{listed_none, listed_more, listed_same, listed_all}
use Rattle.leak_blocks.proofs.small.spans_of.Goals as goal
use Rattle.leak_blocks.proofs.small.spans_of.Goals.{then-is_small+in_ok-add, else-is_small}

no_line : Line
no_line = record { kind = Alloc; addr = 0; size = 0; caller = (0, 0) }

pub loop-line-init : goal.loop-line-init
loop-line-init c = rw c.in_ok-spans.ensures.items (listed_none is_small span_of c.args.lines.now)

pub loop-line-preserved : goal.loop-line-preserved
unfolding no_line
loop-line-preserved c =
    elim c.if-is_small.branch [
      | then-is_small+in_ok-add w ↦
          rw w.spans-is
          (listed_more is_small span_of c.args.lines.now c.loop-line.line-index no_line c.loop-line.spans.items w.add.new.spans.items c.loop-line.invariant c.loop-line-test.true (sym c.is_small.ensures ∙ w.if-is_small.true) w.in_ok-add.ensures.each
          (λ a. w.in_ok-add.ensures.same a ∙ ap (λ (s : Span). is_covered c.loop-line.spans.items a || holds a s) w.span_at.ensures))
      | else-is_small w ↦ rw w.spans-is (listed_same is_small span_of c.args.lines.now c.loop-line.line-index no_line c.loop-line.spans.items c.loop-line.invariant c.loop-line-test.true (sym c.is_small.ensures ∙ w.if-is_small.false))
    ]

pub returns-clause-each : goal.returns-clause-each
returns-clause-each c = c.loop-line.invariant.each

pub returns-clause-same : goal.returns-clause-same
unfolding small_spans_of
returns-clause-same c = listed_all is_small span_of c.args.lines.now c.loop-line.line-index c.loop-line.spans.items c.loop-line.invariant c.loop-line-test.false
