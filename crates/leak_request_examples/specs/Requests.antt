-- Worked command lines: what the words after the program's name ask for, or why they are refused.
use Rattle.std.specs.Prelude.{◌≡◌, ◌↔◌, ◌⊎◌, ℕ, Bool, true, false, not, List, [], ◌∷◌, codes, map, string_bytes, Option, Some, None}
use Rattle.clap.specs.Words.{Text}
use Rattle.leak_index.specs.Readings.{distances_of, listed_by}
use Rattle.leak_request.specs.Requests.{IsRequestOf, IsUsageFaultOf}
use Rattle.leak_request.specs.declared.fault.UsageFault.{UsageFault}
use Rattle.leak_request.specs.declared.fault.UsageFault.TheVariants.{Address, Block, Check, Displace, NoMemory, Sides, Words}
use Rattle.leak_request.specs.declared.options.Options.{Options}
use Rattle.leak_request.specs.declared.options.Request.{Request}
use Rattle.leak_request.specs.declared.options.Request.TheVariants.{Search, Why, Holders, Grow, Text as Shown}
use Rattle.leak_request.specs.declared.options.SearchRequest.{SearchRequest}

-- the options that say which words keep a block: distances of words, or none if all count, and the flags
pub record Reads : Type 0 where
  pub listed : Option (List ℕ)
  pub ends : Bool
  pub freed : Bool
  pub links : Bool
  pub slack : Bool
  pub dead : Bool
  pub all_memory : Bool

-- without such options, and with all of them
abbrev pub plainly : Reads
plainly = record { listed = None; ends = false; freed = false; links = false; slack = false; dead = false; all_memory = false }

abbrev pub with_all : List ℕ → Reads
with_all listed = record { listed = Some listed; ends = true; freed = true; links = true; slack = true; dead = true; all_memory = true }

-- the options are read so
pub record AreReadAs (w : Reads) (o : Options) : Type 0 where
  pub listed : listed_by o.reading ≡ w.listed
  pub ends : (distances_of o.reading).skips_ends ≡ w.ends
  pub freed : o.skip.freed ≡ w.freed
  pub links : o.skip.links ≡ w.links
  pub slack : o.skip.slack ≡ w.slack
  pub dead : o.skip.dead ≡ w.dead
  pub unwritable : o.skip.unwritable ≡ not w.all_memory
  pub core_limit : o.core_limit ≡ 68719476736
  pub log_limit : o.log_limit ≡ 4294967296

-- the numbers of a plan
pub record Planned : Type 0 where
  pub workers : ℕ
  pub piece : ℕ
  pub stack : ℕ

abbrev pub by_default : Planned
by_default = record { workers = 4; piece = 512; stack = 1024 }

pub record ArePlanned (n : Planned) (o : Options) : Type 0 where
  pub workers : o.plan.workers ≡ n.workers
  pub piece : o.plan.piece ≡ n.piece
  pub stack : o.plan.stack ≡ n.stack

-- the options about warnings and misfits
pub record Signed : Type 0 where
  pub check : Bool
  pub other_heap : Bool
  pub strict : Bool

abbrev pub unsigned : Signed
unsigned = record { check = false; other_heap = false; strict = false }

pub record AreSigned (s : Signed) (o : Options) : Type 0 where
  pub check : o.check ≡ s.check
  pub other_heap : o.other_heap ≡ s.other_heap
  pub strict : o.strict ≡ s.strict

-- a search of one core or of two
pub record IsSearchFor (two : Bool) (paths : List Text) (n : Planned) (w : Reads) (s : Signed) (r : SearchRequest) : Type 0 where
  pub two_is : r.options.two ≡ two
  pub paths_are : map string_bytes r.paths.items ≡ paths
  pub plan : ArePlanned n r.options
  pub reading : AreReadAs w r.options
  pub signs : AreSigned s r.options

abbrev pub IsSearch : Bool → List Text → Planned → Reads → Signed → Request → Type 0
IsSearch two paths n w s (Search r) = IsSearchFor two paths n w s r
IsSearch two paths n w s (Why r) = ⊥
IsSearch two paths n w s (Holders r) = ⊥
IsSearch two paths n w s (Grow r) = ⊥
IsSearch two paths n w s (Shown text) = ⊥

-- a text that the words ask for, as help
abbrev pub IsShown : Request → Type 0
IsShown (Search r) = ⊥
IsShown (Why r) = ⊥
IsShown (Holders r) = ⊥
IsShown (Grow r) = ⊥
IsShown (Shown text) = Unit {0}

-- The words ask for this alone, and are refused only if memory is.
pub record AskFor (words : List Text) (Is : Request → Type 0) : Type 0 where
  pub request : (r : Request) → IsRequestOf (codes "leak_find" ∷ words) r ↔ Is r
  pub taken : (f : UsageFault) → IsUsageFaultOf (codes "leak_find" ∷ words) f → f ≡ NoMemory

-- the words ask for nothing, and are refused for this reason, unless memory is refused
pub record AreRefused (words : List Text) (fault : UsageFault) : Type 0 where
  pub request : (r : Request) → IsRequestOf (codes "leak_find" ∷ words) r → ⊥
  pub is : IsUsageFaultOf (codes "leak_find" ∷ words) fault
  pub only : (f : UsageFault) → IsUsageFaultOf (codes "leak_find" ∷ words) f → (f ≡ fault) ⊎ (f ≡ NoMemory)

-- the refusal is a text
abbrev pub IsText : UsageFault → Type 0
IsText (Words text) = Unit {0}
IsText (Displace f) = ⊥
IsText Check = ⊥
IsText Sides = ⊥
IsText Block = ⊥
IsText (Address a) = ⊥
IsText NoMemory = ⊥

-- the words are refused by clap, whose text is told
pub record AreRefusedByClap (words : List Text) : Type 0 where
  pub request : (r : Request) → IsRequestOf (codes "leak_find" ∷ words) r → ⊥
  pub only : (f : UsageFault) → IsUsageFaultOf (codes "leak_find" ∷ words) f → IsText f ⊎ (f ≡ NoMemory)

-- a core and its log, and two of them
abbrev pub one_input : List Text
one_input = codes "core.1" ∷ codes "trace.log" ∷ []

abbrev pub two_inputs : List Text
two_inputs = codes "a" ∷ codes "b" ∷ codes "c" ∷ codes "d" ∷ []
