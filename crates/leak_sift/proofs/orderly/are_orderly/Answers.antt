-- One segment more, which begins past the last or not.
use Rattle.std.proofs.Common.{◌≡◌, ◌<◌, ◌+◌, true, false, refl, arith}
use Rattle.leak_index.proofs.Near.{either}
use Rattle.leak_sift.specs.Places.{offset_at}
use Rattle.leak_sift.proofs.OrderLemmas.{all_orderly, not_orderly, orderly_more, orderly_same}
use Rattle.leak_sift.proofs.orderly.are_orderly.Goals.{then-segment-gt0+else-not-begins_past, else-segment-gt0}
use Rattle.leak_sift.proofs.orderly.are_orderly.Goals as goal

pub returns-then-not-begins_past : goal.returns-then-not-begins_past
returns-then-not-begins_past c =
    let n = c.loop-segment.segment-index in
    let before : offset_at c.args.segments.now n < c.loop-segment.offset + c.loop-segment.filesz =
    either (offset_at c.args.segments.now n) (c.loop-segment.offset + c.loop-segment.filesz) (offset_at c.args.segments.now n < c.loop-segment.offset + c.loop-segment.filesz) (λ h. h)
    (λ past. absurd (let passes = c.begins_past.ensures.1 past in cc)) in (
      λ t. absurd (let no : false ≡ true = t in cc),
      λ all. absurd (not_orderly c.args.segments.now n c.loop-segment.offset c.loop-segment.filesz c.loop-segment.invariant c.loop-segment-test.true c.if-segment-gt0.true before all),
    )

pub loop-segment-preserved : goal.loop-segment-preserved
loop-segment-preserved c =
    let n = c.loop-segment.segment-index in
    elim c.if-segment-gt0.branch [
      | then-segment-gt0+else-not-begins_past w ↦
          rw (w.offset-is, w.filesz-is)
          (orderly_more c.args.segments.now n c.loop-segment.offset c.loop-segment.filesz c.loop-segment.invariant w.if-segment-gt0.true (w.begins_past.ensures.0 w.if-not-begins_past.false))
      | else-segment-gt0 w ↦
          rw (w.offset-is, w.filesz-is) (orderly_same c.args.segments.now n c.loop-segment.offset c.loop-segment.filesz c.loop-segment.invariant (omega arith))
    ]

pub returns : goal.returns
returns c = (
  λ t. all_orderly c.args.segments.now c.loop-segment.segment-index c.loop-segment.offset c.loop-segment.filesz c.loop-segment.invariant c.loop-segment-test.false,
  λ all. refl,
)
