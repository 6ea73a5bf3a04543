-- From the lemmas of Lines.
use Rattle.std.proofs.Common.{codes, rules}
use Rattle.std.proofs.lemmas.Result.{IfOk-weaker}
use Rattle.clap.specs.Words.{new_app}
use Rattle.leak_request.proofs.Lines.{globals_more, line_more}
use Rattle.leak_request.proofs.command_line.grow.Goals as goal

pub returns-clause-line : goal.returns-clause-line
returns-clause-line c =
    let first = line_more {line = new_app (codes "grow")} c.in_ok-arg.ensures c.operand.ensures.local c.operand.ensures.rule (search rules) in
    let second = line_more c.in_ok-arg-2.ensures c.operand-2.ensures.local c.operand-2.ensures.rule first in
    IfOk-weaker c.arg-3.result _ _ (λ r added. line_more added c.flag.ensures.local c.flag.ensures.rule second) c.arg-3.ensures

pub returns-clause-local : goal.returns-clause-local
returns-clause-local c =
    let first = globals_more c.in_ok-arg.ensures c.operand.ensures.local (search rules) in
    let second = globals_more c.in_ok-arg-2.ensures c.operand-2.ensures.local first in
    IfOk-weaker c.arg-3.result _ _ (λ r added. globals_more added c.flag.ensures.local second) c.arg-3.ensures
