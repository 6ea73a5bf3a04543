-- From the lemmas of SmallLemmas.
use Rattle.std.proofs.Common.{◌<◌, arith, refl, length, get_or}
use Rattle.std.proofs.lemmas.List.{get_or_default}
use Rattle.leak_blocks.proofs.SmallLemmas.{merged_at_first, merged_at_wider, merged_at_next, merged_at_last, no_span}
use Rattle.leak_blocks.proofs.small.merge.Goals as goal
use Rattle.leak_blocks.proofs.small.merge.Goals.{then-span-saturating_add, else-span-saturating_add}

pub loop-next-init : goal.loop-next-init
loop-next-init c =
    let some : 0 < length c.args.spans.now = grind (arith, c.if-is_empty.ensures) in
    merged_at_first c.args.spans.now _ c.requires.spans c.requires.ascending some (get_or_default c.args.spans.now 0 _ _ some)

pub loop-next-preserved : goal.loop-next-preserved
unfolding no_span
loop-next-preserved c =
    elim c.if-span-saturating_add.branch [
      | then-span-saturating_add w ↦
          rw (w.spans-is, w.open-is, w.closed-is)
          (merged_at_wider c.args.spans.now c.loop-next.spans _ c.loop-next.next c.loop-next.closed c.loop-next.open _ no_span c.loop-next.invariant (omega arith) (omega arith) refl w.max.ensures)
      | else-span-saturating_add w ↦
          rw (w.spans-is, w.open-is, w.closed-is)
          (merged_at_next c.args.spans.now c.loop-next.spans _ c.loop-next.next c.loop-next.closed c.loop-next.open no_span c.loop-next.invariant c.requires.spans c.requires.ascending (omega arith) (omega arith)
          (let f : c.saturating_add.result < (get_or c.loop-next.spans c.loop-next.next no_span).first = w.if-span-saturating_add.false in omega arith))
    ]

pub returns-clause-same : goal.returns-clause-same
returns-clause-same c =
    let some : 0 < length c.args.spans.now = grind (arith, c.if-is_empty.ensures) in
    (merged_at_last c.args.spans.now c.loop-next.spans _ c.loop-next.next c.loop-next.closed c.loop-next.open c.loop-next.invariant some (get_or_default c.args.spans.now 0 _ _ some) (omega arith) (omega arith)).same
