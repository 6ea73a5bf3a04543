-- From the lemmas of UnderwayLemmas.
use Rattle.std.proofs.Common.{◌∙◌, ◌++◌, []}
use Rattle.std.proofs.lemmas.Result.{err_from_is_err_and}
use Rattle.leak_replaying.proofs.UnderwayLemmas.{first_come, first_read, nearer, no_memory, place_within, same_blocks}
use Rattle.leak_replaying.proofs.replaying.replay_log.Goals as goal

pub read_lines-requires-clause-begun : goal.read_lines-requires-clause-begun
read_lines-requires-clause-begun g c =
    (c.requires.begun.0, c.requires.begun.1.passed ++ c.args.log.now.window.items, first_come _ _ _ _ _ c.requires.begun.1 c.requires.open)

pub returns-in_err-read_lines-clause-stopped : goal.returns-in_err-read_lines-clause-stopped
returns-in_err-read_lines-clause-stopped g c =
    let p = err_from_is_err_and c.from_residual.result c.from_residual.ensures.1 in
    rw (p.1, p.2) (λ first is. c.in_err-read_lines.ensures.refused first (is.passed ++ c.args.log.now.window.items) (first_come _ _ _ _ _ is c.requires.open))

pub returns-in_err-stage-clause-stopped : goal.returns-in_err-stage-clause-stopped
returns-in_err-stage-clause-stopped g c =
    let p = err_from_is_err_and c.from_residual-in_err-stage.result c.from_residual-in_err-stage.ensures.1 in
    rw (p.1, p.2) (λ first is. no_memory _ _ _ _ _ _ _ (first_read _ _ _ _ _ is c.requires.open _ _ c.in_ok-read_lines.ensures.ok))

pub loop-more-init : goal.loop-more-init
loop-more-init g c = (
  λ first is. ([], (same_blocks _ _ _ _ _ _ _ _ c.in_ok-stage.ensures.allocated (first_read _ _ _ _ _ is c.requires.open _ _ c.in_ok-read_lines.ensures.ok), c.in_ok-stage.ensures.after)),
  λ no. absurd (let f : ⊥ = cc in f),
  c.in_ok-read_lines.ensures.ok.spans,
)

pub replay_on-requires-after_bounds : goal.replay_on-requires-after_bounds
replay_on-requires-after_bounds g c κs within =
    let now = c.loop-more.invariant.0 c.requires.begun.0 c.requires.begun.1 in
    (c.requires.begun.0, now.0, now.1)

pub returns-in_err-later-clause-stopped : goal.returns-in_err-later-clause-stopped
returns-in_err-later-clause-stopped g c =
    let p = err_from_is_err_and c.from_residual-in_err-later.result c.from_residual-in_err-later.ensures.1 in
    rw (p.1, p.2) (λ first is.
    let now = c.loop-more.invariant.0 first is in
    c.in_err-later.ensures.stopped first now.0 now.1)

pub loop-more-smaller : goal.loop-more-smaller
loop-more-smaller g c =
    let now = c.loop-more.invariant.0 c.requires.begun.0 c.requires.begun.1 in
    let on = c.in_ok-later.ensures.ok c.requires.begun.0 now.0 now.1 in
    nearer c.args.limit _ _ _ _ c.loop-more-test.true c.in_ok-later.ensures.not_back c.in_ok-later.ensures.further (place_within _ _ _ _ _ _ _ on.1.0)

pub loop-more-preserved : goal.loop-more-preserved
loop-more-preserved g c = (
  λ first is.
      let now = c.loop-more.invariant.0 first is in
      c.in_ok-later.ensures.ok first now.0 now.1,
  c.in_ok-later.ensures.end,
  c.in_ok-later.ensures.spans ∙ c.loop-more.invariant.2,
)

pub returns-clause-ok : goal.returns-clause-ok
returns-clause-ok g c = c.loop-more.invariant.0

pub returns-clause-spans : goal.returns-clause-spans
returns-clause-spans g c = c.loop-more.invariant.2

pub returns-clause-end : goal.returns-clause-end
returns-clause-end g c = c.loop-more.invariant.1 c.loop-more-test.false
