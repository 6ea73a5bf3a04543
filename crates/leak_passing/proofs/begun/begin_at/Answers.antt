-- The segments are orderly, or the core is read whole.
use Rattle.std.proofs.Common.{take, subst}
use Rattle.std.proofs.lemmas.Result.{err_from_is_err_and}
use Rattle.leak_passing.specs.Begun.{AreOrderlySegments}
use Rattle.leak_passing.proofs.begun.begin_at.Goals as goal

pub orderly_segments-requires : goal.orderly_segments-requires
orderly_segments-requires g c = rw (c.as_slice.ensures.value) c.requires.head

pub returns-in_err-found-clause-refused : goal.returns-in_err-found-clause-refused
returns-in_err-found-clause-refused g c =
    let p = err_from_is_err_and c.from_residual.result c.from_residual.ensures.1 in
    rw (p.1, p.2) (λ first has. (record { bytes = c.args.held.items; interruptions = c.args.reading.interruptions }, has.come))

pub returns-in-Some-clause-ok : goal.returns-in-Some-clause-ok
returns-in-Some-clause-ok g c = λ first skip alive has. record {
  come = has;
  alive = alive;
  head = c.requires.head;
  segments = subst (λ bytes. AreOrderlySegments (take c.args.head bytes) c.in-Some.segments.items) c.as_slice.ensures.value
      (rw c.in-Some.is at c.in_ok-found.ensures);
}

pub returns-in_err-whole-in-None-clause-refused : goal.returns-in_err-whole-in-None-clause-refused
returns-in_err-whole-in-None-clause-refused g c =
    let p = err_from_is_err_and c.from_residual-in_err-whole-in-None.result c.from_residual-in_err-whole-in-None.ensures.1 in
    rw (p.1, p.2) (c.in_err-whole-in-None.ensures.refused)

pub returns-in_ok-whole-in-None-clause-ok : goal.returns-in_ok-whole-in-None-clause-ok
returns-in_ok-whole-in-None-clause-ok g c = λ first skip alive has. c.in_ok-whole-in-None.ensures.ok first has
