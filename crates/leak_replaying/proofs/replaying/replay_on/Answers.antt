-- From the lemmas of UnderwayLemmas.
use Rattle.std.proofs.lemmas.Result.{err_from_is_err_and}
use Rattle.leak_replaying.proofs.UnderwayLemmas.{let_gone, no_memory, no_memory_after, same_blocks}
use Rattle.leak_replaying.proofs.replaying.replay_on.Goals as goal

pub returns-in_err-arena-clause-stopped : goal.returns-in_err-arena-clause-stopped
returns-in_err-arena-clause-stopped g c =
    let p = err_from_is_err_and c.from_residual.result c.from_residual.ensures.1 in
    rw (p.1, p.2) (λ first lines is. no_memory _ _ _ _ _ _ _ is.0)

pub begin-requires : goal.begin-requires
begin-requires g c = (c.requires.1, c.requires.2.1)

pub returns-in_err-ongoing-clause-stopped : goal.returns-in_err-ongoing-clause-stopped
returns-in_err-ongoing-clause-stopped g c =
    let p = err_from_is_err_and c.from_residual-in_err-ongoing.result c.from_residual-in_err-ongoing.ensures.1 in
    rw (p.1, p.2) (λ first lines is. no_memory _ _ _ _ _ _ _ is.0)

pub fill-requires-after_bounds : goal.fill-requires-after_bounds
fill-requires-after_bounds g c κs within =
    (c.requires.0, c.requires.1, (same_blocks _ _ _ _ _ _ _ _ c.in_ok-ongoing.ensures.allocated c.requires.2.0, c.in_ok-ongoing.ensures.after c.requires.1 c.requires.2.1))

pub returns-in_err-more-clause-stopped : goal.returns-in_err-more-clause-stopped
returns-in_err-more-clause-stopped g c =
    let p = err_from_is_err_and c.from_residual-in_err-more.result c.from_residual-in_err-more.ensures.1 in
    rw (p.1, p.2) (λ first lines is.
    c.in_err-more.ensures.stopped first lines (same_blocks _ _ _ _ _ _ _ _ c.in_ok-ongoing.ensures.allocated is.0, c.in_ok-ongoing.ensures.after lines is.1))

pub end-requires : goal.end-requires
end-requires g c =
    let gone = c.in_ok-more.ensures.ok c.requires.0 c.requires.1
    (same_blocks _ _ _ _ _ _ _ _ c.in_ok-ongoing.ensures.allocated c.requires.2.0, c.in_ok-ongoing.ensures.after c.requires.1 c.requires.2.1) in
    (gone.0, gone.1.1)

pub returns-in_err-stage-clause-stopped : goal.returns-in_err-stage-clause-stopped
returns-in_err-stage-clause-stopped g c =
    let p = err_from_is_err_and c.from_residual-in_err-stage.result c.from_residual-in_err-stage.ensures.1 in
    rw (p.1, p.2) (λ first lines is.
    let gone = c.in_ok-more.ensures.ok first lines (same_blocks _ _ _ _ _ _ _ _ c.in_ok-ongoing.ensures.allocated is.0, c.in_ok-ongoing.ensures.after lines is.1) in
    no_memory _ _ _ _ _ _ _ gone.1.0)

pub let_go-requires : goal.let_go-requires
let_go-requires g c =
    let gone = c.in_ok-more.ensures.ok c.requires.0 c.requires.1
    (same_blocks _ _ _ _ _ _ _ _ c.in_ok-ongoing.ensures.allocated c.requires.2.0, c.in_ok-ongoing.ensures.after c.requires.1 c.requires.2.1) in
    let is = same_blocks _ _ _ _ _ _ _ _ c.in_ok-stage.ensures.allocated gone.1.0 in
    (is.passed, gone.0, is.has, c.in_ok-stage.ensures.after gone.0 gone.1.1)

pub returns-in_err-let_go-clause-stopped : goal.returns-in_err-let_go-clause-stopped
returns-in_err-let_go-clause-stopped g c =
    let p = err_from_is_err_and c.from_residual-in_err-let_go.result c.from_residual-in_err-let_go.ensures.1 in
    rw (p.1, p.2) (λ first lines is.
    let gone = c.in_ok-more.ensures.ok first lines (same_blocks _ _ _ _ _ _ _ _ c.in_ok-ongoing.ensures.allocated is.0, c.in_ok-ongoing.ensures.after lines is.1) in
    no_memory_after _ _ _ _ _ _ _ gone.1.0 c.let_go.new.self c.let_go.ensures.reading c.let_go.ensures.ended)

pub returns-clause-ok : goal.returns-clause-ok
returns-clause-ok g c = λ first lines is.
    let gone = c.in_ok-more.ensures.ok first lines (same_blocks _ _ _ _ _ _ _ _ c.in_ok-ongoing.ensures.allocated is.0, c.in_ok-ongoing.ensures.after lines is.1) in
    let now = same_blocks _ _ _ _ _ _ _ _ c.in_ok-stage.ensures.allocated gone.1.0 in
    let went = c.in_ok-let_go.ensures.ok now.passed gone.0 now.has (c.in_ok-stage.ensures.after gone.0 gone.1.1) in
    (gone.0, (let_gone _ _ _ _ _ _ _ now c.let_go.new.self _ c.let_go.ensures.reading c.let_go.ensures.ended c.let_go.ensures.window went.0, went.1))
