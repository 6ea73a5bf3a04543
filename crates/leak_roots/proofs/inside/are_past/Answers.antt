-- From the lemmas of LeftOut.
use Rattle.std.proofs.Common.{arith, ◌<◌, inl, inr}
use Rattle.std.proofs.lemmas.Bool.{ltb-true, cases_lt}
use Rattle.leak_roots.proofs.Spans.{all_past}
use Rattle.leak_roots.proofs.inside.are_past.Goals as goal

pub returns-else-many-eq0-clause-within : goal.returns-else-many-eq0-clause-within
returns-else-many-eq0-clause-within c = λ t.
    let some : 0 < c.args.many = elim (cases_lt 0 c.args.many) [
      | inl m ↦ m
      | inr m ↦ absurd (c.if-many-eq0.false (omega arith))
    ] in
    all_past c.args.spans.now c.args.many c.args.addr (record { first = 0; last = 0 }) c.requires c.if-many-spans.true some (ltb-true _ _ t)
