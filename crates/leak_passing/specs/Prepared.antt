-- An input that is to be marked: its core may lack words that tell which blocks fit, once that is known.
use Rattle.std.specs.Prelude.{◌≡◌, ◌⊎◌, ℕ, Bool, List, map, option_map}
use Rattle.leak_mtrace.specs.declared.line.Line.{Line}
use Rattle.leak_blocks.specs.declared.block.Block.{Block}
use Rattle.leak_index.specs.Readings.{distances_of}
use Rattle.leak_roots.specs.declared.skip.Skip.{Skip}
use Rattle.leak_search.specs.Inputs.{IsFaultOfOne, IsReadOf}
use Rattle.leak_search.specs.Searched.{MarksOne}
use Rattle.leak_search.specs.Signs.{fits_told}
use Rattle.leak_search.specs.declared.error.FindError.{FindError}
use Rattle.leak_search.specs.declared.found.Searched.{Searched}
use Rattle.leak_search.specs.declared.inputs.Input.{Input}
use Rattle.leak_search.specs.declared.signing.Consistency.{Consistency}
use Rattle.leak_search.specs.declared.rules.Rules.{Rules}
use Rattle.leak_sift.specs.Passed.{IsRange}
use Rattle.leak_sparse.specs.Words.{between}
use Rattle.leak_alike.specs.AlikeToMark.{ReadsPointersAlone}
use Rattle.leak_replaying.specs.declared.texts.KeptTexts.{KeptTexts}
use Rattle.leak_passing.specs.ByTexts.{AreTextsOf}

-- all words are left, or, if they are read as pointers alone, those that aren't outside the blocks
abbrev pub IsLeftToMark : Skip → List Block → List ℕ → List ℕ → Type 0
IsLeftToMark skip blocks words left =
    (left ≡ words) ⊎ (ReadsPointersAlone skip × (low : ℕ) × (high : ℕ) × IsRange blocks low high × (left ≡ map (between low high) words))

-- It is known which blocks of a core and its log fit, and a search goes on with this input: what marking comes to in its core, it
-- comes to in the core that was searched.
pub record IsPrepared (core log : List ℕ) (check : Bool) (rules : Rules) (input : Input) (consistency : Consistency) (kept : KeptTexts) : Type 0 where
  pub lines : List Line
  pub whole : IsReadOf core log lines (record input { image = core })
  pub here : IsReadOf input.image log lines input
  pub marks : (workers : ℕ) (searched : Searched) → MarksOne input.image log lines (distances_of rules.reading) rules.skip workers searched
      → MarksOne core log lines (distances_of rules.reading) rules.skip workers searched
  pub faults : (e : FindError) → IsFaultOfOne input.image log e → IsFaultOfOne core log e
  pub fits : option_map (λ v. v.items) consistency.fits ≡ fits_told check core lines
  pub texts : AreTextsOf log input.live.blocks kept

-- this is so of each such core and log
abbrev pub OfPrepared : Bool → Rules → Input → Consistency → KeptTexts → (List ℕ → List ℕ → Type 0) → Type 0
OfPrepared check rules input consistency kept Holds =
    (core log : List ℕ) → IsPrepared core log check rules input consistency kept → Holds core log
