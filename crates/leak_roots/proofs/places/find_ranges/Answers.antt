-- From the lemmas of BySegment.
use Rattle.std.proofs.Common.{false, sym, ◌∙◌, ap, length, arith}
use Rattle.leak_elf.specs.Segments.{segments_of}
use Rattle.leak_elf.specs.declared.segment.Segment.{Segment}
use Rattle.leak_roots.proofs.BySegment.{found_first, read_more, read_same, read_all, read_before, dumped_fits}
use Rattle.leak_roots.proofs.LeftOut.{HasNone, all_kept, all_counted, kept_ranges}
use Rattle.leak_roots.proofs.Few.{gaps_few_first, gaps_few_more, gaps_few_same, gaps_few_all}
use Rattle.leak_roots.proofs.places.find_ranges.Goals as goal
use Rattle.leak_roots.proofs.places.find_ranges.Goals.{then-has_roots+in_ok-push_gaps, else-has_roots}

no_segment : Segment
no_segment = record { vaddr = 0; memsz = 0; offset = 0; filesz = 0; writable = false }

pub overflow_add-end : goal.overflow_add-end
unfolding no_segment
overflow_add-end g c =
    let h = dumped_fits c.args.image.now c.segments-segment-items.result.now c.loop-segment.segment-index no_segment c.segments-segment-items.ensures.segments c.segments-segment-items.ensures.accepted c.loop-segment-test.true in omega (arith, h)

pub push_gaps-requires-clause-fits : goal.push_gaps-requires-clause-fits
unfolding no_segment
push_gaps-requires-clause-fits g c =
    read_before (g.T.RangeTest.keeps c.args.test.now) c.args.unwritable c.args.image.now c.args.blocks.now c.segments-segment-items.result.now c.loop-segment.segment-index no_segment c.new-kept.result c.loop-segment.kept c.segments-segment-items.ensures.segments c.loop-segment-test.true c.loop-segment.invariant.found

pub loop-segment-init : goal.loop-segment-init
loop-segment-init g c =
    let none : HasNone c.args.spans.now c.new-kept.result = record { memory = rw c.new-kept.ensures.memory c.requires.none; inside = c.new-kept.ensures.inside; same = c.new-kept.ensures.spans } in
    record {
      none = none;
      found = found_first (g.T.RangeTest.keeps c.args.test.now) c.args.unwritable c.args.image.now c.args.blocks.now c.args.spans.now c.new-kept.result c.requires.apart none;
      few = gaps_few_first c.args.unwritable (segments_of c.args.image.now) c.args.blocks.now c.args.spans.now _ (ap length none.memory);
    }

pub loop-segment-preserved : goal.loop-segment-preserved
unfolding no_segment
loop-segment-preserved g c =
    let e = c.segments-segment-items.ensures.segments in
    let ok = c.segments-segment-items.ensures.accepted in
    let segs = c.segments-segment-items.result.now in
    let found = c.loop-segment.invariant.found in
    let none = c.loop-segment.invariant.none in
    elim c.if-has_roots.branch [
      | then-has_roots+in_ok-push_gaps w ↦
          let has = sym c.has_roots.ensures ∙ w.if-has_roots.true in
          rw w.kept-is (record {
            none = none;
            found = read_more (g.T.RangeTest.keeps c.args.test.now) c.args.unwritable c.args.image.now c.args.blocks.now segs c.loop-segment.segment-index no_segment c.new-kept.result c.loop-segment.kept w.push_gaps.new.kept
                e ok c.loop-segment-test.true has found w.in_ok-push_gaps.ensures.adds w.in_ok-push_gaps.ensures.fits;
            few = gaps_few_more c.args.unwritable c.args.image.now c.args.blocks.now c.args.spans.now c.loop-segment.segment-index (length c.loop-segment.kept.memory.items) (length w.push_gaps.new.kept.memory.items) no_segment
                ok (rw e at c.loop-segment-test.true) (rw e at has) c.loop-segment.invariant.few (rw (e, found.adds.spans, none.same) at w.in_ok-push_gaps.ensures.few);
          })
      | else-has_roots w ↦
          let has = sym c.has_roots.ensures ∙ w.if-has_roots.false in
          rw w.kept-is (record {
            none = none;
            found = read_same (g.T.RangeTest.keeps c.args.test.now) c.args.unwritable c.args.image.now c.args.blocks.now segs c.loop-segment.segment-index no_segment c.new-kept.result c.loop-segment.kept e c.loop-segment-test.true has found;
            few = gaps_few_same c.args.unwritable (segments_of c.args.image.now) c.args.blocks.now c.args.spans.now c.loop-segment.segment-index (length c.loop-segment.kept.memory.items) no_segment (rw e at c.loop-segment-test.true) (rw e at has) c.loop-segment.invariant.few;
          })
    ]

pub returns-clause-kept : goal.returns-clause-kept
returns-clause-kept g c =
    all_kept (g.T.RangeTest.keeps c.args.test.now) 0 _ c.args.spans.now _ c.new-kept.result c.loop-segment.kept c.loop-segment.invariant.none
    (read_all (g.T.RangeTest.keeps c.args.test.now) c.args.unwritable c.args.image.now c.args.blocks.now c.segments-segment-items.result.now c.loop-segment.segment-index c.new-kept.result c.loop-segment.kept c.segments-segment-items.ensures.segments c.loop-segment-test.false c.loop-segment.invariant.found)

pub returns-clause-ranges : goal.returns-clause-ranges
returns-clause-ranges g c = kept_ranges (g.T.RangeTest.keeps c.args.test.now) _ _ (returns-clause-kept g c)

pub returns-clause-inside : goal.returns-clause-inside
returns-clause-inside g c =
    all_counted (g.T.RangeTest.keeps c.args.test.now) 0 _ c.args.spans.now _ c.new-kept.result c.loop-segment.kept c.loop-segment.invariant.none
    (read_all (g.T.RangeTest.keeps c.args.test.now) c.args.unwritable c.args.image.now c.args.blocks.now c.segments-segment-items.result.now c.loop-segment.segment-index c.new-kept.result c.loop-segment.kept c.segments-segment-items.ensures.segments c.loop-segment-test.false c.loop-segment.invariant.found)

pub returns-clause-few : goal.returns-clause-few
returns-clause-few g c =
    gaps_few_all c.args.unwritable (segments_of c.args.image.now) c.args.blocks.now c.args.spans.now c.loop-segment.segment-index (length c.loop-segment.kept.memory.items) (rw c.segments-segment-items.ensures.segments at c.loop-segment-test.false) c.loop-segment.invariant.few
