-- From the lemmas of Complete.
use Rattle.std.proofs.Common.{rules, subst, ◌≤◌}
use Rattle.std.proofs.lemmas.Result.{err_from_is_err_and}
use Rattle.leak_index.specs.Readings.{listed_by}
use Rattle.leak_pool.specs.Plan.{IsBetween}
use Rattle.leak_request.specs.FoundRows.{found_rows}
use Rattle.leak_request.specs.Requests.{AreAt}
use Rattle.leak_request.proofs.Complete.{none_lacks_holders, question_refused}
use Rattle.leak_request.proofs.arguments.holders_request.Goals as goal

pub returns-in-Err-clause-refused : goal.returns-in-Err-clause-refused
returns-in-Err-clause-refused c =
    let plan = c.in_ok-plan.plan in
    let workers : IsBetween 1 64 plan.workers = search rules in
    let piece : IsBetween 1 65536 plan.piece = search rules in
    let stack : plan.stack ≤ 65536 = search rules in (
      none_lacks_holders (found_rows c.args.found.now) c.in_ok-paths.paths.items (record { workers = plan.workers; piece = plan.piece; stack = plan.stack })
          (subst (λ ids. AreAt (found_rows c.args.found.now) ids c.in_ok-paths.paths.items) c.ids_of.ensures c.in_ok-paths.ensures.ok) workers piece stack c.in_ok-plan.ensures.ok,
      c.in-Err.ensures.refused,
    )

pub returns-in_err-question-clause-refused : goal.returns-in_err-question-clause-refused
returns-in_err-question-clause-refused c =
    let plan = c.in_ok-plan.plan in
    let workers : IsBetween 1 64 plan.workers = search rules in
    let piece : IsBetween 1 65536 plan.piece = search rules in
    let stack : plan.stack ≤ 65536 = search rules in
    let whole = none_lacks_holders (found_rows c.args.found.now) c.in_ok-paths.paths.items (record { workers = plan.workers; piece = plan.piece; stack = plan.stack })
    (subst (λ ids. AreAt (found_rows c.args.found.now) ids c.in_ok-paths.paths.items) c.ids_of.ensures c.in_ok-paths.ensures.ok) workers piece stack c.in_ok-plan.ensures.ok in
    let refused = question_refused (found_rows c.args.found.now) c.in_err-question.field-0.0 whole (listed_by c.in-Ok.reading, c.in-Ok.ensures.ok) c.in_err-question.ensures.refused in
    let p = err_from_is_err_and c.from_residual-in_err-question.result c.from_residual-in_err-question.ensures.1 in
    rw (p.1) (rw (p.2) refused)
