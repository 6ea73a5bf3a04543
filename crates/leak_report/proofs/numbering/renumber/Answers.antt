-- The number at the index is still as it was.
use Rattle.std.proofs.Common.{ℕ, ◌<◌, length, get_or, sym, arith}
use Rattle.std.proofs.lemmas.Grind.{get_or_default_zero}
use Rattle.std.proofs.lemmas.List.Edits.{map_over_more}
use Rattle.leak_report.proofs.numbering.renumber.Goals as goal

pub loop-number-preserved : goal.loop-number-preserved
loop-number-preserved c =
    let lt : c.loop-number.number-index < length c.loop-number.numbers = omega (arith) in
    let number : ℕ = get_or c.loop-number.numbers c.loop-number.number-index 0 in
    map_over_more (λ (n : ℕ). get_or c.args.places.now n 0) c.args.numbers.now c.loop-number.numbers c.loop-number.number-index
    number c.loop-number-test.true c.loop-number.invariant (sym (get_or_default_zero c.loop-number.numbers c.loop-number.number-index number lt))
