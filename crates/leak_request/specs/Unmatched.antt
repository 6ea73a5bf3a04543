-- What is made of clap's answer if it has no matches, by its kind.
use Rattle.std.specs.Prelude.{◌≢◌}
use Rattle.clap.specs.declared.error.kind.ErrorKind.{ErrorKind}
use Rattle.clap.specs.declared.error.kind.ErrorKind.TheVariants as kind
use Rattle.leak_request.specs.declared.fault.UsageFault.{UsageFault}
use Rattle.leak_request.specs.declared.fault.UsageFault.TheVariants as fault
use Rattle.leak_request.specs.declared.options.Request.{Request}
use Rattle.leak_request.specs.declared.options.Request.TheVariants.{Search, Why, Holders, Grow, Text as Shown}
use Rattle.leak_request.specs.Requests.{IsText}

-- a text that was asked for
abbrev pub IsShownText : Request → ErrorKind → Type 0
IsShownText (Search r) k = ⊥
IsShownText (Why r) k = ⊥
IsShownText (Holders r) k = ⊥
IsShownText (Grow r) k = ⊥
IsShownText (Shown text) k = IsText k

-- what is wrong with the words, or memory was refused
abbrev pub IsMistake : UsageFault → ErrorKind → Type 0
IsMistake (fault.Words text) k = (k ≢ kind.OutOfMemory) × (IsText k → ⊥)
IsMistake (fault.Displace f) k = ⊥
IsMistake fault.Check k = ⊥
IsMistake fault.Sides k = ⊥
IsMistake fault.Block k = ⊥
IsMistake (fault.Address a) k = ⊥
IsMistake fault.NoMemory k = Unit {0}
