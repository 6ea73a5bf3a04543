-- From the lemmas of Cutting and Numbered.
use Rattle.std.proofs.Common.{◌≡◌, length, sym, ◌∙◌, arith}
use Rattle.leak_roots.specs.Cut.{pieces_before}
use Rattle.leak_roots.proofs.Cutting.{range_is}
use Rattle.leak_roots.proofs.Numbered.{before_more, before_all, before_none, before_fits, listed_none, listed_more, listed_push}
use Rattle.leak_roots.proofs.pieces.list_long.Goals as goal
use Rattle.leak_roots.proofs.pieces.list_long.Goals.{then-pieces-gt1+in_ok-push, else-pieces-gt1}

pub loop-place-init : goal.loop-place-init
loop-place-init c = record {
  listed = rw c.new-long.ensures.items (listed_none c.args.words c.args.ranges.now);
  counted = sym (before_none c.args.words c.args.ranges.now);
  few = omega arith;
}

pub count_in-pieces-requires-clause-range : goal.count_in-pieces-requires-clause-range
count_in-pieces-requires-clause-range c = range_is c.args.ranges.now c.loop-place.place (0, 0) c.requires.ranges c.loop-place-test.true

pub overflow_add-count : goal.overflow_add-count
overflow_add-count c =
    let low = before_fits c.args.words c.args.ranges.now c.loop-place.place (0, 0) c.requires.some c.requires.ranges c.loop-place-test.true in
    let e = c.loop-place.invariant.counted in let f = c.count_in-pieces.ensures.fits in omega arith

pub loop-place-preserved : goal.loop-place-preserved
loop-place-preserved c =
    let low = before_fits c.args.words c.args.ranges.now c.loop-place.place (0, 0) c.requires.some c.requires.ranges c.loop-place-test.true in
    let more = before_more c.args.words c.args.ranges.now c.loop-place.place (0, 0) c.loop-place-test.true in
    let e = c.loop-place.invariant.counted in let f = c.count_in-pieces.ensures.fits in let n = c.count_in-pieces.ensures.count in
    let some = c.count_in-pieces.ensures.some in record {
      listed = elim c.if-pieces-gt1.branch [
        | then-pieces-gt1+in_ok-push w ↦
            rw (w.long-is, w.in_ok-push.ensures.items)
            (listed_push c.args.words c.args.ranges.now 0 c.loop-place.long.items (record { first = c.loop-place.count; range = c.loop-place.place }) e c.loop-place.invariant.listed)
        | else-pieces-gt1 w ↦
            rw w.long-is
            (listed_more c.args.words c.args.ranges.now 0 c.loop-place.long.items c.loop-place.place (0, 0) c.loop-place-test.true (omega arith) c.loop-place.invariant.listed)
      ];
      counted = omega arith;
      few = omega arith;
    }

pub returns-clause-count : goal.returns-clause-count
returns-clause-count c =
    let all = before_all c.args.words c.args.ranges.now in
    let e = c.loop-place.invariant.counted in
    let place : c.loop-place.place ≡ length c.args.ranges.now = let t = c.loop-place-test.false in let u = c.loop-place.auto.place-end in omega arith in
    let f : c.loop-place.count ≡ pieces_before c.args.words c.args.ranges.now (length c.args.ranges.now) = rw place at e in f ∙ all
