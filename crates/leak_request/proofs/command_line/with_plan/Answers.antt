-- From the lemmas of Lines.
use Rattle.std.proofs.Common.{refl}
use Rattle.std.proofs.lemmas.Result.{IfOk-weaker}
use Rattle.clap.specs.Words.{app_of}
use Rattle.leak_request.proofs.Lines.{globals_more, line_more}
use Rattle.leak_request.proofs.command_line.with_plan.Goals as goal

pub returns-clause-local : goal.returns-clause-local
returns-clause-local c =
    let first = globals_more c.in_ok-arg.ensures c.workers.ensures.local refl in
    let second = globals_more c.in_ok-arg-2.ensures c.piece.ensures.local first in
    IfOk-weaker c.arg-3.result _ _ (λ r added. globals_more added c.stack.ensures.local second) c.arg-3.ensures

pub returns-clause-line : goal.returns-clause-line
returns-clause-line c =
    let first = line_more {line = app_of c.args.command} c.in_ok-arg.ensures c.workers.ensures.local c.workers.ensures.rule refl in
    let second = line_more c.in_ok-arg-2.ensures c.piece.ensures.local c.piece.ensures.rule first in
    IfOk-weaker c.arg-3.result _ _ (λ r added. line_more added c.stack.ensures.local c.stack.ensures.rule second) c.arg-3.ensures
