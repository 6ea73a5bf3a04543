-- Cores that marking can't tell apart. Own rule: once it is known which blocks fit, nothing asks for a word that leads to
-- no live block, unless slack, dead stack or links to free chunks are left out.
use Rattle.std.specs.Prelude.{◌≡◌, ◌↔◌, ◌⊎◌, ℕ, true, false, List, ◌++◌, length, map, None}
use Rattle.leak_elf.specs.Refusals.{fault_of}
use Rattle.leak_elf.specs.Segments.{segments_of}
use Rattle.leak_elf.specs.Words.{word_of}
use Rattle.leak_mtrace.specs.Log.{IsLog}
use Rattle.leak_mtrace.specs.declared.line.Line.{Line}
use Rattle.leak_blocks.specs.Live.{live_of}
use Rattle.leak_index.specs.Hits.{Index}
use Rattle.leak_index.specs.Leads.{Distances}
use Rattle.leak_sift.specs.Behind.{bytes_behind}
use Rattle.leak_sift.specs.Kept.{is_outside}
use Rattle.leak_sift.specs.Sifted.{sifted}
use Rattle.leak_roots.specs.declared.skip.Skip.{Skip}
use Rattle.leak_search.specs.Search.{index_of}
use Rattle.leak_search.specs.Searched.{MarksOne}
use Rattle.leak_search.specs.declared.found.Searched.{Searched}
use Rattle.leak_alike.specs.Alike.{AreAlikeWords}
use Rattle.leak_alike.specs.OneHead.{AgreeButWords}
use Rattle.leak_alike.specs.SiftedCores.{CanBeSifted, rule_of, sifted_core}

-- two cores say the same but for words that lead to no block
pub record AreAlikeToMark (index : Index) (core other : List ℕ) : Type 0 where
  pub but_words : AgreeButWords core other
  pub words : (a : ℕ) → AreAlikeWords index (word_of core a) (word_of other a)

-- words are read as pointers alone: nothing is left out that goes by another word
pub record ReadsPointersAlone (skip : Skip) : Type 0 where
  pub slack : skip.slack ≡ false
  pub dead : skip.dead ≡ false
  pub links : skip.links ≡ false

-- what marking the one comes to, it comes to in the other
abbrev pub MarksOfAlikeAreOne : Type 0
MarksOfAlikeAreOne =
    (core other log : List ℕ) (lines : List Line) (reading : Distances) (skip : Skip) (workers : ℕ) (searched : Searched) → ReadsPointersAlone skip
    → AreAlikeToMark (index_of reading lines) core other
    → (MarksOne core log lines reading skip workers searched ↔ MarksOne other log lines reading skip workers searched)

-- what is left of the words: each is as it was, or it was outside the blocks and is 0
abbrev pub LeavesPointers : List Line → (ℕ → ℕ) → Type 0
LeavesPointers lines keep = (word : ℕ) → (keep word ≡ word) ⊎ ((keep word ≡ 0) × (is_outside (live_of lines) word ≡ true))

-- a core with what is left of the words behind its head
abbrev pub pruned_core : (ℕ → ℕ) → List ℕ → List ℕ → ℕ → List ℕ
pruned_core keep held words len = held ++ bytes_behind (map keep words) len

-- a sifted core is alike, to marking, with what is left of its words
abbrev pub PrunedAreAlike : Type 0
PrunedAreAlike =
    (keep : ℕ → ℕ) (held rest log : List ℕ) (lines : List Line) (reading : Distances) (skip : Skip) → CanBeSifted held rest → fault_of (held ++ rest) ≡ None
    → IsLog log lines → LeavesPointers lines keep
    → AreAlikeToMark (index_of reading lines) (sifted_core (rule_of lines skip) held rest)
    (pruned_core keep held (sifted (rule_of lines skip) (segments_of held) (length held) rest) (length rest))
