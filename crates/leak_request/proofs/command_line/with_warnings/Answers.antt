-- From the lemmas of Lines.
use Rattle.std.proofs.Common.{refl}
use Rattle.std.proofs.lemmas.Result.{IfOk-weaker}
use Rattle.clap.specs.Words.{app_of}
use Rattle.leak_request.proofs.Lines.{globals_more, line_more}
use Rattle.leak_request.proofs.command_line.with_warnings.Goals as goal

pub returns-clause-local : goal.returns-clause-local
returns-clause-local c =
    let first = globals_more c.in_ok-arg.ensures c.flag.ensures.local refl in
    IfOk-weaker c.arg-2.result _ _ (λ r added. globals_more added c.flag-2.ensures.local first) c.arg-2.ensures

pub returns-clause-line : goal.returns-clause-line
returns-clause-line c =
    let first = line_more {line = app_of c.args.command} c.in_ok-arg.ensures c.flag.ensures.local c.flag.ensures.rule refl in
    IfOk-weaker c.arg-2.result _ _ (λ r added. line_more added c.flag-2.ensures.local c.flag-2.ensures.rule first) c.arg-2.ensures
