-- From the lemmas of Lines.
use Rattle.std.proofs.Common.{◌∙◌, ap, codes, rules}
use Rattle.std.proofs.lemmas.Result.{IfOk-weaker}
use Rattle.clap.specs.Words.{new_app}
use Rattle.leak_request.specs.CommandLine.{with_options}
use Rattle.leak_request.proofs.Lines.{globals_more, line_more}
use Rattle.leak_request.proofs.command_line.two.Goals as goal

pub returns-clause-line : goal.returns-clause-line
returns-clause-line c =
    let first = line_more {line = new_app (codes "two")} c.in_ok-arg.ensures c.operand.ensures.local c.operand.ensures.rule (search rules) in
    let second = line_more c.in_ok-arg-2.ensures c.operand-2.ensures.local c.operand-2.ensures.rule first in
    let third = line_more c.in_ok-arg-3.ensures c.operand-3.ensures.local c.operand-3.ensures.rule second in
    let fourth = line_more c.in_ok-command.ensures c.operand-4.ensures.local c.operand-4.ensures.rule third in
    IfOk-weaker c.with_options.result _ _ (λ r is. is ∙ ap with_options fourth) c.with_options.ensures.line

pub returns-clause-local : goal.returns-clause-local
returns-clause-local c =
    let first = globals_more c.in_ok-arg.ensures c.operand.ensures.local (search rules) in
    let second = globals_more c.in_ok-arg-2.ensures c.operand-2.ensures.local first in
    let third = globals_more c.in_ok-arg-3.ensures c.operand-3.ensures.local second in
    let fourth = globals_more c.in_ok-command.ensures c.operand-4.ensures.local third in
    IfOk-weaker c.with_options.result _ _ (λ r is. is ∙ fourth) c.with_options.ensures.local
