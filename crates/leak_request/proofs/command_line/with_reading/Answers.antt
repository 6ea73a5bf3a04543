-- From the lemmas of Lines.
use Rattle.std.proofs.Common.{refl}
use Rattle.std.proofs.lemmas.Result.{IfOk-weaker}
use Rattle.clap.specs.Words.{app_of}
use Rattle.leak_request.proofs.Lines.{globals_more, line_more}
use Rattle.leak_request.proofs.command_line.with_reading.Goals as goal

pub returns-clause-local : goal.returns-clause-local
returns-clause-local c =
    let first = globals_more c.in_ok-arg.ensures c.text.ensures.local refl in
    let second = globals_more c.in_ok-arg-2.ensures c.flag.ensures.local first in
    let third = globals_more c.in_ok-arg-3.ensures c.flag-2.ensures.local second in
    let fourth = globals_more c.in_ok-arg-4.ensures c.flag-3.ensures.local third in
    let fifth = globals_more c.in_ok-arg-5.ensures c.flag-4.ensures.local fourth in
    let sixth = globals_more c.in_ok-arg-6.ensures c.flag-5.ensures.local fifth in
    IfOk-weaker c.arg-7.result _ _ (λ r added. globals_more added c.flag-6.ensures.local sixth) c.arg-7.ensures

pub returns-clause-line : goal.returns-clause-line
returns-clause-line c =
    let first = line_more {line = app_of c.args.command} c.in_ok-arg.ensures c.text.ensures.local c.text.ensures.rule refl in
    let second = line_more c.in_ok-arg-2.ensures c.flag.ensures.local c.flag.ensures.rule first in
    let third = line_more c.in_ok-arg-3.ensures c.flag-2.ensures.local c.flag-2.ensures.rule second in
    let fourth = line_more c.in_ok-arg-4.ensures c.flag-3.ensures.local c.flag-3.ensures.rule third in
    let fifth = line_more c.in_ok-arg-5.ensures c.flag-4.ensures.local c.flag-4.ensures.rule fourth in
    let sixth = line_more c.in_ok-arg-6.ensures c.flag-5.ensures.local c.flag-5.ensures.rule fifth in
    IfOk-weaker c.arg-7.result _ _ (λ r added. line_more added c.flag-6.ensures.local c.flag-6.ensures.rule sixth) c.arg-7.ensures
