-- From the lemmas of SmallLemmas.
use Rattle.std.proofs.Common.{◌||◌, ap, sym, ◌∙◌}
use Rattle.leak_blocks.specs.declared.block.Block.{Block}
use Rattle.leak_blocks.specs.declared.small.Span.{Span}
use Rattle.leak_blocks.specs.Small.{small_block_spans, holds, is_covered}
use Rattle.leak_blocks.proofs.SmallLemmas.{outside_more, outside_left, outside_all}
use Rattle.leak_blocks.proofs.small.block_spans.Goals as goal
use Rattle.leak_blocks.proofs.small.block_spans.Goals.{then-is_listed+in_ok-add, else-is_listed}

no_block : Block
no_block = record { start = 0; size = 0; line = 0; caller = (0, 0) }

pub loop-number-preserved : goal.loop-number-preserved
unfolding no_block
loop-number-preserved c =
    elim c.if-is_listed.branch [
      | then-is_listed+in_ok-add w ↦
          rw w.spans-is
          (outside_more c.args.blocks.now c.args.live.now c.loop-number.number no_block c.loop-number.spans.items w.add.new.spans.items c.loop-number.invariant c.loop-number-test.true (sym c.is_listed.ensures ∙ w.if-is_listed.true) w.in_ok-add.ensures.each
          (λ a. w.in_ok-add.ensures.same a ∙ ap (λ (s : Span). is_covered c.loop-number.spans.items a || holds a s) w.span_at.ensures))
      | else-is_listed w ↦ rw w.spans-is (outside_left c.args.blocks.now c.args.live.now c.loop-number.number no_block c.loop-number.spans.items c.loop-number.invariant c.loop-number-test.true (sym c.is_listed.ensures ∙ w.if-is_listed.false))
    ]

pub returns-clause-same : goal.returns-clause-same
unfolding small_block_spans
returns-clause-same c = outside_all c.args.blocks.now c.args.live.now c.loop-number.number c.loop-number.spans.items c.loop-number.invariant c.loop-number-test.false
