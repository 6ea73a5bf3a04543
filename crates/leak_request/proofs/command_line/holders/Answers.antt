-- From the lemmas of Lines.
use Rattle.std.proofs.Common.{◌∙◌, ap, codes, rules}
use Rattle.std.proofs.lemmas.Result.{IfOk-weaker}
use Rattle.clap.specs.Words.{new_app}
use Rattle.leak_request.specs.CommandLine.{plan_rules, question_rules, reading_rules, warning_rules, with_rules}
use Rattle.leak_request.proofs.Lines.{globals_more, line_more}
use Rattle.leak_request.proofs.command_line.holders.Goals as goal

pub returns-clause-line : goal.returns-clause-line
returns-clause-line c =
    let first = line_more {line = new_app (codes "holders")} c.in_ok-arg.ensures c.operand.ensures.local c.operand.ensures.rule (search rules) in
    let second = line_more c.in_ok-command.ensures c.operand-2.ensures.local c.operand-2.ensures.rule first in
    let third = c.in_ok-command-2.ensures.line ∙ ap (λ a. with_rules a question_rules) second in
    let fourth = c.in_ok-command-3.ensures.line ∙ ap (λ a. with_rules a plan_rules) third in
    let fifth = c.in_ok-command-4.ensures.line ∙ ap (λ a. with_rules a reading_rules) fourth in
    IfOk-weaker c.with_warnings.result _ _ (λ r is. is ∙ ap (λ a. with_rules a warning_rules) fifth) c.with_warnings.ensures.line

pub returns-clause-local : goal.returns-clause-local
returns-clause-local c =
    let first = globals_more c.in_ok-arg.ensures c.operand.ensures.local (search rules) in
    let second = globals_more c.in_ok-command.ensures c.operand-2.ensures.local first in
    let third = c.in_ok-command-2.ensures.local ∙ second in
    let fourth = c.in_ok-command-3.ensures.local ∙ third in
    let fifth = c.in_ok-command-4.ensures.local ∙ fourth in
    IfOk-weaker c.with_warnings.result _ _ (λ r is. is ∙ fifth) c.with_warnings.ensures.local
