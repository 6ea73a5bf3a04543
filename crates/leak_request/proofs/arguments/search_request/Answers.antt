-- From the lemmas of Complete.
use Rattle.std.proofs.Common.{rules, subst, ◌≤◌}
use Rattle.leak_index.specs.Readings.{listed_by}
use Rattle.leak_pool.specs.Plan.{IsBetween}
use Rattle.leak_request.specs.FoundRows.{found_rows}
use Rattle.leak_request.specs.Requests.{AreAt}
use Rattle.leak_request.proofs.Complete.{none_lacks}
use Rattle.leak_request.proofs.arguments.search_request.Goals as goal

pub returns-in-Err-clause-refused : goal.returns-in-Err-clause-refused
returns-in-Err-clause-refused c =
    let plan = c.in_ok-plan.plan in
    let workers : IsBetween 1 64 plan.workers = search rules in
    let piece : IsBetween 1 65536 plan.piece = search rules in
    let stack : plan.stack ≤ 65536 = search rules in (
      none_lacks c.args.name.now (found_rows c.args.found.now) c.in-Some.two c.in_ok-paths.paths.items
          (record { workers = plan.workers; piece = plan.piece; stack = plan.stack }) c.in-Some.ensures.name (subst (λ ids. AreAt (found_rows c.args.found.now) ids c.in_ok-paths.paths.items) c.ids_of.ensures c.in_ok-paths.ensures.ok) workers piece stack
          c.in_ok-plan.ensures.ok,
      c.in-Err.ensures.refused,
    )

pub returns-then-other_heap-clause-refused : goal.returns-then-other_heap-clause-refused
returns-then-other_heap-clause-refused c =
    let plan = c.in_ok-plan.plan in
    let workers : IsBetween 1 64 plan.workers = search rules in
    let piece : IsBetween 1 65536 plan.piece = search rules in
    let stack : plan.stack ≤ 65536 = search rules in (
      none_lacks c.args.name.now (found_rows c.args.found.now) c.in-Some.two c.in_ok-paths.paths.items
          (record { workers = plan.workers; piece = plan.piece; stack = plan.stack }) c.in-Some.ensures.name (subst (λ ids. AreAt (found_rows c.args.found.now) ids c.in_ok-paths.paths.items) c.ids_of.ensures c.in_ok-paths.ensures.ok) workers piece stack
          c.in_ok-plan.ensures.ok,
      (listed_by c.in-Ok.reading, c.in-Ok.ensures.ok),
      record { check = c.is_given-check.ensures.0 c.if-check.true; other_heap = c.is_given-other_heap.ensures.0 c.if-other_heap.true },
    )
