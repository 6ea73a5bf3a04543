-- The live blocks are those of the log, or none.
use Rattle.std.proofs.lemmas.Result.{err_from_is_err_and}
use Rattle.leak_passing.proofs.keeping.sift_by_log.Goals as goal

pub returns-in-Ok-clause-ok : goal.returns-in-Ok-clause-ok
returns-in-Ok-clause-ok g c = rw c.in-Ok.is c.sift_core.ensures.ok

pub returns-in_err-none-in-Err-clause-refused : goal.returns-in_err-none-in-Err-clause-refused
returns-in_err-none-in-Err-clause-refused g c =
    let p = err_from_is_err_and c.from_residual.result c.from_residual.ensures.1 in
    rw (p.1, p.2) (λ first at. (_, at.come.come))

pub returns-in_ok-none-in-Err-clause-ok : goal.returns-in_ok-none-in-Err-clause-ok
returns-in_ok-none-in-Err-clause-ok g c = rw (c.in-Err.is, ← c.in_ok-none-in-Err.ensures) c.sift_core-in-Err.ensures.ok
