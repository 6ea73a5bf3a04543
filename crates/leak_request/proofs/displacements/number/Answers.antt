-- From the lemmas of Numbers.
use Rattle.std.proofs.Common.{arith, sym, subst, Option, ℕ}
use Rattle.std.specs.Prelude.{SomeIff, IsTrue}
use Rattle.leak_request.specs.Displacements.{decimal_value, is_number}
use Rattle.leak_request.proofs.Numbers.{no_number, read_is_number}
use Rattle.leak_request.proofs.displacements.number.Goals as goal

pub returns-in_err-value : goal.returns-in_err-value
returns-in_err-value c =
    let item = c.args.item.now in
    let no = no_number item c.loop-byte.value c.loop-byte.byte-index c.loop-byte.invariant c.loop-byte-test.true c.in_err-value.ensures in
    subst (λ (r : Option ℕ). SomeIff r (IsTrue (is_number item)) (decimal_value item)) (sym c.from_residual.ensures) no

pub returns : goal.returns
returns c = read_is_number c.args.item.now c.loop-byte.value c.loop-byte.byte-index c.loop-byte.invariant c.loop-byte-test.false (grind (arith, c.if-is_empty.ensures)) c.if-item-gt-MOST_DIGITS.false
