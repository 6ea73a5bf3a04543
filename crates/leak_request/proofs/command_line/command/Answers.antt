-- From the lemmas of Lines.
use Rattle.std.proofs.Common.{codes, rules}
use Rattle.std.proofs.lemmas.Result.{IfOk-weaker}
use Rattle.clap.specs.Words.{new_app}
use Rattle.leak_request.specs.CommandLine.{naming_subcommand}
use Rattle.leak_request.proofs.Lines.{subcommand_more}
use Rattle.leak_request.proofs.command_line.command.Goals as goal

pub returns : goal.returns
returns c =
    let first = subcommand_more {line = naming_subcommand (new_app (codes "leak_find"))} c.in_ok-subcommand.ensures c.in_ok-one.ensures.local c.in_ok-one.ensures.line (search rules) in
    let second = subcommand_more c.in_ok-subcommand-2.ensures c.in_ok-two.ensures.local c.in_ok-two.ensures.line first in
    let third = subcommand_more c.in_ok-subcommand-3.ensures c.in_ok-why.ensures.local c.in_ok-why.ensures.line second in
    let fourth = subcommand_more c.in_ok-subcommand-4.ensures c.in_ok-holders.ensures.local c.in_ok-holders.ensures.line third in
    IfOk-weaker c.subcommand-5.result _ _ (λ r added. subcommand_more added c.in_ok-grow.ensures.local c.in_ok-grow.ensures.line fourth) c.subcommand-5.ensures
