-- From the lemmas of Gathering.
use Rattle.std.proofs.lemmas.Result.{err_from_is_err_and}
use Rattle.leak_notes.proofs.Gathering.{taken_first, taken_more, taken_all, taken_refused, following_is_shorter}
use Rattle.leak_notes.proofs.threads.Threads.take_part.Goals as goal

pub loop-entry-init : goal.loop-entry-init
loop-entry-init c = rw c.first-entry.ensures (taken_first _ _)

pub loop-entry-preserved : goal.loop-entry-preserved
loop-entry-preserved c =
    rw c.following-entry.ensures
    (taken_more _ _ _ _ _ c.loop-entry.invariant (λ z. let t = c.is_end.ensures.1 z in absurd cc) c.in_ok-take_entry.ensures.whole c.in_ok-take_entry.ensures.ok)

pub loop-entry-smaller : goal.loop-entry-smaller
loop-entry-smaller c = rw c.following-entry.ensures (following_is_shorter c.loop-entry.entry c.in_ok-take_entry.ensures.whole)

pub returns-in_err-take_entry-clause-refused : goal.returns-in_err-take_entry-clause-refused
returns-in_err-take_entry-clause-refused c =
    let p = err_from_is_err_and c.from_residual.result c.from_residual.ensures.1 in
    rw (p.1, p.2)
    (λ other. taken_refused _ _ _ _ _ c.loop-entry.invariant (λ z. let t = c.is_end.ensures.1 z in absurd cc) (c.in_err-take_entry.ensures.refused other))

pub returns-clause-ok : goal.returns-clause-ok
returns-clause-ok c = taken_all _ _ _ _ c.loop-entry.invariant (c.is_end.ensures.0 c.loop-entry-test.false)
