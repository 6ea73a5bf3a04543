-- The offset is past all segments, or before the first that has a later byte, or in it.
use Rattle.leak_sift.proofs.PlaceLemmas.{run_between, run_inside, run_past}
use Rattle.leak_sift.proofs.places.run_in.Goals as goal

pub returns-then-number-segments : goal.returns-then-number-segments
returns-then-number-segments c = run_past c.args.segments.now c.args.offset c.args.number c.args.most c.requires.kept c.requires.orderly c.requires.first c.if-number-segments.true c.requires.some

pub returns-then-offset-segment : goal.returns-then-offset-segment
returns-then-offset-segment c =
    run_between c.args.segments.now c.args.offset c.args.number c.args.most c.requires.kept c.requires.orderly c.requires.first c.if-number-segments.false c.requires.some c.words_before.result c.if-offset-segment.true c.words_before.ensures

pub returns : goal.returns
returns c =
    run_inside c.args.segments.now c.args.offset c.args.number c.args.most c.requires.kept c.requires.orderly c.requires.first c.if-number-segments.false c.requires.some c.words_before-2.result c.if-offset-segment.false c.words_before-2.ensures
