-- The place is so many words behind the first.
use Rattle.std.proofs.Common.{◌+◌, ◌-◌, ◌*◌, ◌/◌, ◌==◌, eq-eqb, arith}
use Rattle.std.proofs.lemmas.Bool.{ne_eqb}
use Rattle.leak_sift.proofs.BitsLemmas.{one_bit}
use Rattle.leak_sift.proofs.near.bit_of.Goals as goal

pub returns-then-distance-lt512 : goal.returns-then-distance-lt512
returns-then-distance-lt512 c =
    let place = c.args.place in
    let at = c.args.at in
    one_bit (λ k. place + 8 * k == at) ((at - place) / 8) (omega arith)
    (eq-eqb (place + 8 * ((at - place) / 8)) at (omega (arith, c.if-distance-eq0.true, c.if-at-place.false)))
    (λ k other. ne_eqb (place + 8 * k) at (λ e. other (omega (arith, e))))
