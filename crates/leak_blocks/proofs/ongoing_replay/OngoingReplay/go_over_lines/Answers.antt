-- From the lemmas of ReadWindowLemmas.
use Rattle.std.proofs.Common.{◌≤◌, arith, length}
use Rattle.leak_mtrace.specs.declared.line.Kind.TheVariants.{Alloc}
use Rattle.leak_mtrace.specs.declared.line.Line.{Line}
use Rattle.leak_mtrace.proofs.PartLemmas.{few_lines}
use Rattle.leak_blocks.proofs.ReadWindowLemmas.{caller_at, fits_at, over_line}
use Rattle.leak_blocks.proofs.ongoing_replay.OngoingReplay.go_over_lines.Goals as goal

none : Line
none = record { kind = Alloc; addr = 0; size = 0; caller = (0, 0) }

pub overflow_add-number : goal.overflow_add-number
overflow_add-number c =
    let few : length c.args.lines.now ≤ length c.requires.part.0 = few_lines c.requires.part.0 c.args.lines.now c.requires.part.1.is_log in
    omega (arith, few, c.requires.part.2, c.requires.few, c.loop-line.invariant.1, c.loop-line-test.true)

pub moved-requires-clause-room : goal.moved-requires-clause-room
unfolding none
moved-requires-clause-room c =
    let i = caller_at c.requires.part.0 c.args.lines.now c.loop-line.line-index none c.requires.part.1 c.loop-line-test.true in
    omega (arith, i.within, c.requires.part.2)

pub moved-requires-clause-order : goal.moved-requires-clause-order
unfolding none
moved-requires-clause-order c = (caller_at c.requires.part.0 c.args.lines.now c.loop-line.line-index none c.requires.part.1 c.loop-line-test.true).order

pub step-requires-clause-fits : goal.step-requires-clause-fits
unfolding none
step-requires-clause-fits c = fits_at c.requires.part.0 c.args.lines.now c.loop-line.line-index none _ c.args.from.bytes c.requires.part.1 c.loop-line-test.true c.moved.ensures

pub loop-line-preserved : goal.loop-line-preserved
unfolding none
loop-line-preserved c = (
  over_line c.args.from c.args.lines.now c.loop-line.line-index none _ c.loop-line.number c.args.self.now c.loop-line.self c.step.new.self c.loop-line-test.true c.moved.ensures
      c.loop-line.invariant.1 c.loop-line.invariant.0 c.in_ok-step.ensures.after c.in_ok-step.ensures.allocated,
  omega (arith, c.loop-line.invariant.1),
)
