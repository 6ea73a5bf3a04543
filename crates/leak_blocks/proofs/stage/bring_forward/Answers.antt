-- Each number is that of a block that was not overwritten.
use Rattle.std.proofs.Common.{arith}
use Rattle.leak_blocks.proofs.GatherLemmas.{forward_inside, forward_next, forward_all}
use Rattle.leak_blocks.proofs.stage.bring_forward.Goals as goal

pub slice_copy_out-allocated : goal.slice_copy_out-allocated
slice_copy_out-allocated c =
    let inside = forward_inside c.args.allocated.now c.loop-place.allocated c.args.numbers.now c.loop-place.place c.requires.held c.requires.behind c.loop-place.invariant c.loop-place-test.true in
    omega arith

pub offset_bounds-allocated-number : goal.offset_bounds-allocated-number
offset_bounds-allocated-number c =
    let inside = forward_inside c.args.allocated.now c.loop-place.allocated c.args.numbers.now c.loop-place.place c.requires.held c.requires.behind c.loop-place.invariant c.loop-place-test.true in
    omega arith

pub bounds-allocated-place : goal.bounds-allocated-place
bounds-allocated-place c =
    let inside = forward_inside c.args.allocated.now c.loop-place.allocated c.args.numbers.now c.loop-place.place c.requires.held c.requires.behind c.loop-place.invariant c.loop-place-test.true in
    omega arith

pub offset_bounds-allocated-place : goal.offset_bounds-allocated-place
offset_bounds-allocated-place c =
    let inside = forward_inside c.args.allocated.now c.loop-place.allocated c.args.numbers.now c.loop-place.place c.requires.held c.requires.behind c.loop-place.invariant c.loop-place-test.true in
    omega arith

pub loop-place-preserved : goal.loop-place-preserved
loop-place-preserved c =
    forward_next c.args.allocated.now c.loop-place.allocated c.args.numbers.now c.loop-place.place _ c.loop-place.invariant
    (forward_inside c.args.allocated.now c.loop-place.allocated c.args.numbers.now c.loop-place.place c.requires.held c.requires.behind c.loop-place.invariant c.loop-place-test.true)
    c.loop-place.auto.allocated c.loop-place-test.true

pub returns : goal.returns
returns c = λ blocks of.
    forward_all c.args.allocated.now c.loop-place.allocated blocks c.args.numbers.now c.loop-place.place c.loop-place.invariant (omega arith) of
