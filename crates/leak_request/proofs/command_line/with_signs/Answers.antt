-- From the lemmas of Lines.
use Rattle.std.proofs.Common.{◌∙◌, ap, refl}
use Rattle.std.proofs.lemmas.Result.{IfOk-weaker}
use Rattle.clap.specs.Words.{app_of}
use Rattle.leak_request.specs.CommandLine.{warning_rules, with_rules}
use Rattle.leak_request.proofs.Lines.{globals_more, line_more}
use Rattle.leak_request.proofs.command_line.with_signs.Goals as goal

pub returns-clause-local : goal.returns-clause-local
returns-clause-local c =
    let first = globals_more c.in_ok-command.ensures c.flag.ensures.local refl in
    IfOk-weaker c.with_warnings.result _ _ (λ r is. is ∙ first) c.with_warnings.ensures.local

pub returns-clause-line : goal.returns-clause-line
returns-clause-line c =
    let first = line_more {line = app_of c.args.command} c.in_ok-command.ensures c.flag.ensures.local c.flag.ensures.rule refl in
    IfOk-weaker c.with_warnings.result _ _ (λ r is. is ∙ ap (λ a. with_rules a warning_rules) first) c.with_warnings.ensures.line
