-- Words that lead to no live block, by where the first block begins and where the last one ends.
use Rattle.std.specs.Prelude.{◌≡◌, ℕ, ◌+◌, ◌-◌, ◌<◌, List, length, slice_get, Some}
use Rattle.leak_mtrace.specs.Log.{IsLog}
use Rattle.leak_mtrace.specs.declared.line.Line.{Line}
use Rattle.leak_blocks.specs.Live.{live_of}
use Rattle.leak_blocks.specs.declared.block.Block.{Block}
use Rattle.leak_index.specs.Leads.{Distances}
use Rattle.leak_search.specs.Search.{index_of}
use Rattle.leak_alike.specs.Alike.{AreAlikeWords, LeadsNowhere}

-- The word is below the start of the first block, or above the end of the last. If there is no block, each word is.
pub data IsOutside (blocks : List Block) (word : ℕ) : Type 0 where
  below : ((b : Block) → slice_get blocks 0 ≡ Some b → word < b.start) → IsOutside blocks word
  above : ((b : Block) → slice_get blocks (length blocks - 1) ≡ Some b → b.start + b.size < word) → IsOutside blocks word

-- such a word leads to no live block, by each reading
abbrev pub OutsideLeadNowhere : Type 0
OutsideLeadNowhere =
    (lines : List Line) (reading : Distances) (word : ℕ) → IsOutside (live_of lines) word → LeadsNowhere (index_of reading lines) word

-- and 0 leads to none
abbrev pub ZeroLeadsNowhere : Type 0
ZeroLeadsNowhere = (log : List ℕ) (lines : List Line) (reading : Distances) → IsLog log lines → LeadsNowhere (index_of reading lines) 0

-- so it is alike to take 0 for such a word
abbrev pub OutsideAreLikeZero : Type 0
OutsideAreLikeZero =
    (log : List ℕ) (lines : List Line) (reading : Distances) (word : ℕ) → IsLog log lines → IsOutside (live_of lines) word
    → AreAlikeWords (index_of reading lines) (Some word) (Some 0)
