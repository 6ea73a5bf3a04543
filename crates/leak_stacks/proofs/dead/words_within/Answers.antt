-- The tests of the code are those of the definition.
use Rattle.std.proofs.Common.{◌≡◌, ◌+◌, ◌/◌, ◌<◌, ◌≤◌, nat_lt, true, false, refl, arith}
use Rattle.std.proofs.lemmas.Bool.{lt-ltb, le-ltb}
use Rattle.leak_stacks.specs.Dead.{words_within}
use Rattle.leak_stacks.proofs.dead.words_within.Goals as goal

pub returns-then-first-after-clause-value : goal.returns-then-first-after-clause-value
unfolding words_within
returns-then-first-after-clause-value c =
    let e : c.div_ceil-first.result ≡ (c.args.begin + 7) / 8 = omega (arith, c.div_ceil-first.ensures) in
    let more : nat_lt ((c.args.begin + 7) / 8) (c.args.low / 8) ≡ true = lt-ltb _ _ (let t = c.if-first-after.true in omega arith) in
    rw (more, e) refl

pub returns-else-first-after-clause-value : goal.returns-else-first-after-clause-value
unfolding words_within
returns-else-first-after-clause-value c =
    let e : c.div_ceil-first.result ≡ (c.args.begin + 7) / 8 = omega (arith, c.div_ceil-first.ensures) in
    let more : nat_lt ((c.args.begin + 7) / 8) (c.args.low / 8) ≡ false = le-ltb _ _ (let t = c.if-first-after.false in omega arith) in
    rw more refl
