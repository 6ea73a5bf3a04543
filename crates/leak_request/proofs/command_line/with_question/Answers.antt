-- From the lemmas of Lines.
use Rattle.std.proofs.Common.{refl}
use Rattle.std.proofs.lemmas.Result.{IfOk-weaker}
use Rattle.clap.specs.Words.{app_of}
use Rattle.leak_request.proofs.Lines.{globals_more, line_more}
use Rattle.leak_request.proofs.command_line.with_question.Goals as goal

pub returns-clause-local : goal.returns-clause-local
returns-clause-local c =
    let first = globals_more c.in_ok-arg.ensures c.text.ensures.local refl in
    let second = globals_more c.in_ok-arg-2.ensures c.text-2.ensures.local first in
    let third = globals_more c.in_ok-arg-3.ensures c.flag.ensures.local second in
    IfOk-weaker c.arg-4.result _ _ (λ r added. globals_more added c.text-3.ensures.local third) c.arg-4.ensures

pub returns-clause-line : goal.returns-clause-line
returns-clause-line c =
    let first = line_more {line = app_of c.args.command} c.in_ok-arg.ensures c.text.ensures.local c.text.ensures.rule refl in
    let second = line_more c.in_ok-arg-2.ensures c.text-2.ensures.local c.text-2.ensures.rule first in
    let third = line_more c.in_ok-arg-3.ensures c.flag.ensures.local c.flag.ensures.rule second in
    IfOk-weaker c.arg-4.result _ _ (λ r added. line_more added c.text-3.ensures.local c.text-3.ensures.rule third) c.arg-4.ensures
