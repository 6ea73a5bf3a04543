-- A command with one more argument.
use Rattle.std.proofs.Common.{◌≡◌, Bool, false, ◌||◌, ap, ap₂, ◌∙◌}
use Rattle.std.proofs.Math.Bool.{or-false}
use Rattle.clap.specs.Words.{AddsArg, AddsSubcommand, App, Rule, app_of, rule_of, with_rule, with_subcommand}
use Rattle.clap.specs.declared.builder.arg.Arg.{Arg}
use Rattle.clap.specs.declared.builder.command.Command.{Command}
use Rattle.leak_request.specs.CommandLine.{has_globals}

-- the argument is the last of the line
pub line_more : {old new : Command} {a : Arg} {line : App} {rule : Rule} → AddsArg old a new → a.global ≡ false → rule_of a ≡ rule → app_of old ≡ line
    → app_of new ≡ with_rule line rule
line_more {old} added local rule_is line_is = added.shape local ∙ ap₂ with_rule line_is rule_is

-- an argument that isn't global leaves the command as global as it was
pub globals_more : {old new : Command} {a : Arg} {before : Bool} → AddsArg old a new → a.global ≡ false → has_globals old ≡ before → has_globals new ≡ before
globals_more {old} added local was = added.globals ∙ ap (λ g. has_globals old || g) local ∙ or-false (has_globals old) ∙ was

-- the subcommand is the last of the command
pub subcommand_more : {old sub new : Command} {line met : App} → AddsSubcommand old sub new → has_globals sub ≡ false → app_of sub ≡ met → app_of old ≡ line
    → app_of new ≡ with_subcommand line met.top
subcommand_more {old} added local met_is line_is = added.shape local ∙ ap₂ with_subcommand line_is (ap (λ (a : App). a.top) met_is)
