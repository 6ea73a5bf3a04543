-- What is left of a core and its log once it is known which blocks fit, and what is left of it once it is listed.
use Rattle.std.specs.Prelude.{◌≡◌, ◌⊎◌, ℕ, Bool, List, [], ◌++◌, None}
use Rattle.leak_elf.specs.Head.{IsHead}
use Rattle.leak_elf.specs.Refusals.{fault_of}
use Rattle.leak_blocks.specs.Live.{Replay}
use Rattle.leak_index.specs.Readings.{distances_of}
use Rattle.leak_search.specs.Listed.{IsListedInput}
use Rattle.leak_search.specs.declared.inputs.Input.{Input}
use Rattle.leak_search.specs.declared.listed.ListedInput.{ListedInput}
use Rattle.leak_search.specs.declared.rules.Rules.{Rules}
use Rattle.leak_search.specs.declared.signing.Consistency.{Consistency}
use Rattle.leak_sift.specs.Behind.{HasWords, bytes_behind}
use Rattle.leak_replaying.specs.declared.texts.KeptTexts.{KeptTexts}
use Rattle.leak_passing.specs.Prepared.{IsPrepared}
use Rattle.leak_passing.specs.declared.pruning.Left.{Left}

-- the core that is searched: its head, and behind it the words that are left
abbrev pub core_left : Left → List ℕ
core_left left = left.held.items ++ bytes_behind left.words left.len

-- the input was made of what is left
pub record IsMadeOf (left : Left) (input : Input) : Type 0 where
  pub image : input.image ≡ core_left left
  pub threads : input.threads ≡ left.others.threads
  pub live : input.live ≡ left.others.live
  pub skip : input.skip ≡ left.others.skip
  pub spans : input.heap_spans ≡ left.others.heap_spans
  pub torn : input.torn ≡ left.others.torn

-- An input can be made of what is left, and it is known which blocks of the core and the log fit: a search goes on with each such input.
pub record IsLeftOf (core log : List ℕ) (check : Bool) (rules : Rules) (left : Left) (consistency : Consistency) (kept : KeptTexts) : Type 0 where
  pub words : HasWords left.words left.len
  pub head : (bytes_behind left.words left.len ≡ []) ⊎ IsHead left.held.items
  pub accepted : fault_of (core_left left) ≡ None
  pub prepared : (input : Input) → IsMadeOf left input → IsPrepared core log check rules input consistency kept

-- this is so of each such core and log
abbrev pub OfLeft : Bool → Rules → Left → Consistency → KeptTexts → (List ℕ → List ℕ → Type 0) → Type 0
OfLeft check rules left consistency kept Holds =
    (core log : List ℕ) → IsLeftOf core log check rules left consistency kept → Holds core log

-- an input with which a search goes on was listed, and these are its live blocks
pub record IsListedOf (core log : List ℕ) (check : Bool) (rules : Rules) (live : Replay) (listed : ListedInput) (consistency : Consistency) (kept : KeptTexts) : Type 0 where
  pub input : Input
  pub prepared : IsPrepared core log check rules input consistency kept
  pub live_is : input.live ≡ live
  pub skip : input.skip ≡ rules.skip
  pub lists : IsListedInput input (distances_of rules.reading) listed

-- this is so of each such core and log
abbrev pub OfListed : Bool → Rules → Replay → ListedInput → Consistency → KeptTexts → (List ℕ → List ℕ → Type 0) → Type 0
OfListed check rules live listed consistency kept Holds =
    (core log : List ℕ) → IsListedOf core log check rules live listed consistency kept → Holds core log
