-- The command line, as clap reads it: a subcommand, with its paths and options. Own rule.
use Rattle.std.specs.Prelude.{ℕ, Bool, true, false, List, [], ◌∷◌, ◌++◌, codes, map, pos, Some}
use Rattle.std.specs.List.{fold}
use Rattle.clap.specs.Words.{App, Rule, Text, new_app, new_rule, with_rule, with_subcommand}
use Rattle.clap.specs.declared.builder.action.ArgAction.TheVariants.{SetTrue}
use Rattle.clap.specs.declared.builder.command.Command.{Command}
use Rattle.clap.specs.declared.builder.command.Command.TheViews.{out-Command}
use Rattle.clap.specs.declared.builder.value_parser.ValueParser.TheVariants as parser

-- a word that has to be given: the path of a file, or an address
abbrev pub operand_rule : Text → Rule
operand_rule id = record (new_rule id) { required = true; value_names = 1 }

-- a number from the one bound to the other, and the text of the number that counts if none is given
abbrev pub number_rule : Text → Text → ℕ → ℕ → Rule
number_rule id default low high =
    record (new_rule id) { long = Some id; value_names = 1; defaults = default ∷ []; parser = Some (parser.Signed (pos low) (pos high)) }

-- a text, which may be left out
abbrev pub text_rule : Text → Rule
text_rule id = record (new_rule id) { long = Some id; value_names = 1 }

-- a flag, which may be left out
abbrev pub flag_rule : Text → Rule
flag_rule id = record (new_rule id) { long = Some id; action = Some SetTrue }

-- the options that ask about some blocks, and that say which blocks count
abbrev pub question_rules : List Rule
question_rules = text_rule (codes "in") ∷ text_rule (codes "of") ∷ flag_rule (codes "block") ∷ text_rule (codes "since") ∷ []

-- the options that share out the work
abbrev pub plan_rules : List Rule
plan_rules = number_rule (codes "workers") (codes "4") 1 64
    ∷ number_rule (codes "piece") (codes "512") 1 65536
    ∷ number_rule (codes "stack") (codes "1024") 0 65536 ∷ []

-- the options that say which words keep a block
abbrev pub reading_rules : List Rule
reading_rules = text_rule (codes "displace") ∷ flag_rule (codes "skip-ends") ∷ flag_rule (codes "all-memory")
    ∷ flag_rule (codes "skip-freed") ∷ flag_rule (codes "skip-links")
    ∷ flag_rule (codes "skip-slack") ∷ flag_rule (codes "skip-dead-stack") ∷ []

-- the options about warnings
abbrev pub warning_rules : List Rule
warning_rules = flag_rule (codes "other-heap") ∷ flag_rule (codes "strict") ∷ []

-- the options about the signs that a core and its log don't belong together
abbrev pub sign_rules : List Rule
sign_rules = flag_rule (codes "check") ∷ warning_rules

-- the subcommand of a search of one core, or of two
abbrev pub name_of : Bool → Text
name_of false = codes "one"
name_of true = codes "two"

-- the paths of a search of one core, or of two
abbrev pub path_ids : Bool → List Text
path_ids false = codes "core" ∷ codes "log" ∷ []
path_ids true = codes "core1" ∷ codes "log1" ∷ codes "core2" ∷ codes "log2" ∷ []

-- the command with each of the arguments
abbrev pub with_rules : App → List Rule → App
with_rules a rules = fold with_rule a rules

-- the command with the options of a search
abbrev pub with_options : App → App
with_options a = with_rules (with_rules (with_rules a plan_rules) reading_rules) sign_rules

-- `leak_find one CORE LOG`, or `leak_find two CORE1 LOG1 CORE2 LOG2`
abbrev pub search_line : Bool → App
search_line two = with_options (with_rules (new_app (name_of two)) (map operand_rule (path_ids two)))

-- the subcommand that asks for a block
abbrev pub why_name : Text
why_name = codes "why"

-- the address of the block
abbrev pub address_id : Text
address_id = codes "address"

-- `leak_find why CORE LOG ADDRESS`
abbrev pub why_line : App
why_line =
    with_rules (with_rules (with_rules (new_app why_name) (map operand_rule (path_ids false ++ address_id ∷ []))) reading_rules) warning_rules

-- the subcommand that asks who holds the memory
abbrev pub holders_name : Text
holders_name = codes "holders"

-- `leak_find holders CORE LOG`
abbrev pub holders_line : App
holders_line =
    with_rules (with_rules (with_rules
    (with_rules (with_rules (new_app holders_name) (map operand_rule (path_ids false))) question_rules) plan_rules) reading_rules) warning_rules

-- the subcommand that asks what grew
abbrev pub grow_name : Text
grow_name = codes "grow"

-- the paths of an earlier and of a later log
abbrev pub grow_ids : List Text
grow_ids = codes "log1" ∷ codes "log2" ∷ []

-- `leak_find grow LOG1 LOG2`
abbrev pub grow_line : App
grow_line = with_rules (with_rules (new_app grow_name) (map operand_rule grow_ids)) (flag_rule (codes "strict") ∷ [])

-- the subcommand has to be named, unless the version is asked for
abbrev pub naming_subcommand : App → App
naming_subcommand a = record a { top = record a.top { subcommand_required = true; has_version = true } }

-- the whole command line
abbrev pub command_line : App
command_line =
    with_subcommand (with_subcommand (with_subcommand (with_subcommand (with_subcommand (naming_subcommand (new_app (codes "leak_find")))
    (search_line false).top) (search_line true).top) why_line.top) holders_line.top) grow_line.top

-- an argument of the command or of a subcommand counts in each subcommand
abbrev pub has_globals : Command → Bool
has_globals c = (out-Command c).has_globals
