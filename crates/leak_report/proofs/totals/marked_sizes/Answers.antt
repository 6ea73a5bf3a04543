-- From the lemmas of Leaks.
use Rattle.std.proofs.Common.{◌+◌, length, false, drop, get_or, ap, arith}
use Rattle.std.proofs.lemmas.List.Sums.{sum_by-cons}
use Rattle.leak_blocks.specs.declared.block.Block.{Block}
use Rattle.leak_report.specs.Totals.{marked_in, bytes_of}
use Rattle.leak_report.proofs.Leaks.{marked_next, marked_later, bytes_of-marked, length-marked}
use Rattle.leak_report.proofs.totals.marked_sizes.Goals as goal
use Rattle.leak_report.proofs.totals.marked_sizes.Goals.{then-set-i, else-set-i}

abbrev nothing : Block
nothing = record { start = 0; size = 0; line = 0; caller = (0, 0) }

pub overflow_add-number : goal.overflow_add-number
overflow_add-number c =
    let next = marked_next c.args.set.now c.args.blocks.now c.loop-i.i false nothing (omega arith) c.loop-i-test.true c.if-set-i.true in
    omega (arith, c.loop-i.invariant.0, ap length next, length-marked c.args.set.now c.args.blocks.now)

pub overflow_add-bytes : goal.overflow_add-bytes
overflow_add-bytes c =
    let next = marked_next c.args.set.now c.args.blocks.now c.loop-i.i false nothing (omega arith) c.loop-i-test.true c.if-set-i.true in
    omega (
      arith,
      c.loop-i.invariant.1,
      ap bytes_of next,
      bytes_of-marked c.args.set.now c.args.blocks.now,
      c.requires.fits,
      sum_by-cons (λ (b : Block). b.size) (get_or c.args.blocks.now c.loop-i.i nothing) (marked_in (drop (c.loop-i.i + 1) c.args.set.now) (drop (c.loop-i.i + 1) c.args.blocks.now)),
    )

pub loop-i-preserved : goal.loop-i-preserved
loop-i-preserved c = elim c.if-set-i.branch [
  | then-set-i w ↦
      let next = marked_next c.args.set.now c.args.blocks.now c.loop-i.i false nothing (omega arith) c.loop-i-test.true w.if-set-i.true in (
        omega (arith, c.loop-i.invariant.0, ap length next, w.number-is),
        omega (
          arith,
          c.loop-i.invariant.1,
          ap bytes_of next,
          w.bytes-is,
          sum_by-cons (λ (b : Block). b.size) (get_or c.args.blocks.now c.loop-i.i nothing) (marked_in (drop (c.loop-i.i + 1) c.args.set.now) (drop (c.loop-i.i + 1) c.args.blocks.now)),
        ),
      )
  | else-set-i w ↦
      let later = marked_later c.args.set.now c.args.blocks.now c.loop-i.i false nothing (omega arith) c.loop-i-test.true w.if-set-i.false in (
        omega (arith, c.loop-i.invariant.0, ap length later, w.number-is),
        omega (arith, c.loop-i.invariant.1, ap bytes_of later, w.bytes-is),
      )
]
