-- The text ends or falls below, and the prefix ends.
use Rattle.std.proofs.Common.{◌≡◌, length, drop, sym, ap, ◌∙◌, arith}
use Rattle.leak_lemmas.proofs.Lists.{left_whole}
use Rattle.leak_report.specs.Places.{number_of}
use Rattle.leak_report.proofs.PlaceLemmas.{text_ends, byte_below, prefix_ends}
use Rattle.leak_report.proofs.places.place.Goals as goal
use Rattle.leak_report.proofs.places.place.Goals.{then-text-i-via-then-text-i, then-text-i-via-else-text-i+then-text-i-2}

pub returns-then-text-i : goal.returns-then-text-i
returns-then-text-i c = elim c.then-text-i.branch [
  | then-text-i-via-then-text-i w ↦
      sym (text_ends c.args.prefix.now c.args.text.now c.loop-i.i c.loop-i-test.true (omega (arith, w.if-text-i.true))) ∙ c.loop-i.invariant.0
  | then-text-i-via-else-text-i+then-text-i-2 w ↦
      sym (byte_below c.args.prefix.now c.args.text.now c.loop-i.i c.loop-i-test.true (omega (arith, w.if-text-i.false)) (omega (arith, w.if-text-i-2.true))) ∙ c.loop-i.invariant.0
]

pub returns : goal.returns
returns c =
    let end : c.loop-i.i ≡ length c.args.prefix.now = omega arith in
    c.number.ensures
    ∙ ap (number_of 8 0) (left_whole (length c.args.prefix.now) c.args.text.now)
    ∙ ap (λ n. number_of 8 0 (drop n c.args.text.now)) (sym end)
    ∙ sym (prefix_ends c.args.prefix.now (drop c.loop-i.i c.args.text.now) c.loop-i.i (omega (arith, end)))
    ∙ c.loop-i.invariant.0
