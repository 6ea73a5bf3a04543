-- The subcommand that clap met, and the request or the fault of the words.
use Rattle.std.proofs.Common.{◌≡◌, ◌∙◌, ap, ap₂, sym, refl, true, List, [], ◌∷◌, inl, inr, subst, Option, Some, None, String, Global}
use Rattle.std.specs.Prelude.{IsSomeAnd, option_map, unwrap_or}
use Rattle.clap.specs.Words.{App, HasMatchesOf, HasKind, IsAmong, Row, Text, is_simple, kind_of, subcommand_of, subcommand_rows_of}
use Rattle.clap.specs.Faults.{fault_of, is_simple_and_free}
use Rattle.clap.specs.declared.parser.matches.ArgMatches.{ArgMatches}
use Rattle.clap.specs.declared.error.Error.{Error}
use Rattle.clap.specs.declared.error.ErrorKind.{ErrorKind}
use Rattle.clap.specs.declared.error.ErrorKind.TheVariants.{DisplayHelp, DisplayVersion, OutOfMemory}
use Rattle.clap.proofs.OnLiterals.{clap_on_literals}
use Rattle.leak_request.specs.CommandLine.{command_line}
use Rattle.leak_request.specs.Requests.{AskForMore, HasFiles, IsRefusedAt, IsRequest, IsRequestOf, IsTakenAs, IsText, IsUsageFaultOf}
use Rattle.leak_request.specs.Unmatched.{IsMistake, IsShownText}
use Rattle.leak_request.specs.declared.options.Request.{Request}
use Rattle.leak_request.specs.declared.options.Request.TheVariants.{Search, Why, Holders, Grow, Text as Shown}
use Rattle.leak_request.specs.declared.fault.UsageFault.{UsageFault}
use Rattle.leak_request.specs.declared.fault.UsageFault.TheVariants as fault

-- clap says exactly what it finds on the command line, and why it refuses words
pub line_is_simple : is_simple command_line ≡ true
unfolding clap_on_literals
line_is_simple = refl

pub line_is_free : is_simple_and_free command_line ≡ true
unfolding clap_on_literals
line_is_free = refl

abbrev both : {B : Type 0} → (B → Text) → (B → List Row) → B → Text × List Row
both name_in rows_in b = (name_in b, rows_in b)

-- the name and the rows of the subcommand, found one by one
pub met_whole : {B : Type 0} (name_in : B → Text) (rows_in : B → List Row) (met : Option B) (name : Text) (rows : List Row)
    → Some name ≡ option_map name_in met → Some rows ≡ option_map (λ p. p.1) (option_map (both name_in rows_in) met)
    → option_map (both name_in rows_in) met ≡ Some (name, rows)
met_whole name_in rows_in None name rows n r = cc
met_whole name_in rows_in (Some b) name rows n r =
    ap₂ (λ (x : Text) (y : List Row). Some (x, y)) (sym (ap (λ o. unwrap_or o name) n)) (sym (ap (λ o. unwrap_or o rows) r))

-- clap takes the words
pub line_taken : (line : App) (words : List Text) → line ≡ command_line → (is_simple_and_free line ≡ true → fault_of line words ≡ []) → fault_of command_line words ≡ []
line_taken line words same taken = sym (ap (λ a. fault_of a words) same) ∙ taken (ap is_simple_and_free same ∙ line_is_free)

-- want of memory is no text
no_text : (k : ErrorKind) → k ≡ OutOfMemory → IsText k → ⊥
no_text k out text =
    elim (subst IsText out text) [
      | inl help ↦ let bad : OutOfMemory ≡ DisplayHelp = help in cc
      | inr version ↦ let bad : OutOfMemory ≡ DisplayVersion = version in cc
    ]

-- clap takes no words that it refuses
pub line_refused : (line : App) (words : List Text) (e : Error) → line ≡ command_line → (is_simple_and_free line ≡ true → HasKind (fault_of line words) e)
    → (kind_of e ≡ OutOfMemory → ⊥) → fault_of command_line words ≡ [] → ⊥
line_refused line words e same kinds memory taken =
    elim (kinds (ap is_simple_and_free same ∙ line_is_free)) [
      | inl out ↦ memory out
      | inr among ↦ subst (IsAmong (kind_of e)) (ap (λ a. fault_of a words) same ∙ taken) among
    ]

-- and the subcommand that it met is the one that they name
pub line_met : (line : App) (words : List Text) (m : ArgMatches) (met : Option (Text × List Row)) → line ≡ command_line → HasMatchesOf line words m
    → subcommand_rows_of m ≡ met → subcommand_of command_line words ≡ met
line_met line words m met same has is = sym (ap (λ a. subcommand_of a words) same) ∙ sym (has (ap is_simple same ∙ line_is_simple)).1 ∙ is

-- words that clap takes ask for no text of its own
pub asks_more : (words : List Text) → fault_of command_line words ≡ [] → AskForMore words
asks_more words taken k text same = let bad : [] ≡ k ∷ [] = sym taken ∙ same in cc

-- the words ask for the text that clap gives
pub text_asked : (line : App) (words : List Text) (e : Error) (r : Request) → line ≡ command_line → (is_simple_and_free line ≡ true → HasKind (fault_of line words) e)
    → IsShownText r (kind_of e) → IsRequestOf words r
text_asked line words e (Search r) same kinds is = absurd is
text_asked line words e (Why r) same kinds is = absurd is
text_asked line words e (Holders r) same kinds is = absurd is
text_asked line words e (Grow r) same kinds is = absurd is
text_asked line words e (Shown text) same kinds is =
    elim (kinds (ap is_simple_and_free same ∙ line_is_free)) [
      | inl out ↦ absurd (no_text _ out is)
      | inr among ↦ (kind_of e, subst (IsAmong (kind_of e)) (ap (λ a. fault_of a words) same) among, is)
    ]

-- what clap says is wrong with the words refuses them
pub mistake_told : (line : App) (words : List Text) (e : Error) (f : UsageFault) → line ≡ command_line → (is_simple_and_free line ≡ true → HasKind (fault_of line words) e)
    → IsMistake f (kind_of e) → IsUsageFaultOf words f
mistake_told line words e (fault.Words text) same kinds is = (
  (λ k text alone. elim (kinds (ap is_simple_and_free same ∙ line_is_free)) [
    | inl out ↦ is.0 out
    | inr among ↦ elim (subst (IsAmong (kind_of e)) (ap (λ a. fault_of a words) same ∙ alone) among) [
      | inl one ↦ is.1 (subst IsText (sym one) text)
      | inr none ↦ none
    ]
  ]),
  λ taken. absurd (line_refused line words e same kinds is.0 taken),
)
mistake_told line words e (fault.Displace f) same kinds is = absurd is
mistake_told line words e fault.Check same kinds is = absurd is
mistake_told line words e fault.Sides same kinds is = absurd is
mistake_told line words e fault.Block same kinds is = absurd is
mistake_told line words e (fault.Address a) same kinds is = absurd is
mistake_told line words e fault.NoMemory same kinds is = tt

-- a text is of no file
pub no_files : (r : Request) (k : ErrorKind) → IsShownText r k → HasFiles r
no_files (Search r) k is = absurd is
no_files (Why r) k is = absurd is
no_files (Holders r) k is = absurd is
no_files (Grow r) k is = absurd is
no_files (Shown text) k is = tt

-- what is refused after the parse is refused of the words
pub refused_after : (words : List Text) (name : Text) (rows : List Row) (f : UsageFault) → fault_of command_line words ≡ []
    → subcommand_of command_line words ≡ Some (name, rows) → IsRefusedAt name rows f → IsUsageFaultOf words f
refused_after words name rows (fault.Words text) taken met refused = (asks_more words taken, λ _. rw met refused)
refused_after words name rows (fault.Displace f) taken met refused = (taken, rw met refused)
refused_after words name rows fault.Check taken met refused = (taken, rw met refused)
refused_after words name rows fault.Sides taken met refused = (taken, rw met refused)
refused_after words name rows fault.Block taken met refused = (taken, rw met refused)
refused_after words name rows (fault.Address a) taken met refused = (taken, rw met refused)
refused_after words name rows fault.NoMemory taken met refused = tt

none_shown : (text : String Global) (met : Option (Text × List Row)) → IsSomeAnd met (λ m. IsRequest m.0 m.1 (Shown text)) → ⊥
none_shown text None is = is
none_shown text (Some m) is = is

-- words that clap takes ask for what it found
pub taken_as : (words : List Text) (r : Request) → IsTakenAs words r → IsRequestOf words r
taken_as words (Search r) is = is
taken_as words (Why r) is = is
taken_as words (Holders r) is = is
taken_as words (Grow r) is = is
taken_as words (Shown text) is = absurd (none_shown text (subcommand_of command_line words) is.request)
