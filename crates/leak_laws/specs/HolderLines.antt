-- Which texts have a line in a report on who holds the memory, and that lines within none hold all of it.
use Rattle.std.specs.Prelude.{◌≡◌, ◌↔◌, ℕ, Bool, false, List, length, filter, bytes_eq, slice_index_or, Option, IsTrue}
use Rattle.std.specs.List.{AllByRecursion, Contains, list_any, range_with_len}
use Rattle.leak_blocks.specs.declared.block.Block.{Block}
use Rattle.leak_blocks.specs.Live.{live_of}
use Rattle.leak_index.specs.Leads.{Distances}
use Rattle.leak_roots.specs.declared.skip.Skip.{Skip}
use Rattle.leak_marks.specs.Reach.{Graph}
use Rattle.leak_without.specs.Without.{AreHeldBy, IsHeldBy}
use Rattle.leak_report.specs.Totals.{marked_in, text_at}
use Rattle.leak_report.specs.Numbered.{text_with, texts_of}
use Rattle.leak_search.specs.Search.{graph_of_one}
use Rattle.leak_holder_search.specs.declared.search.Holding.{Holding}
use Rattle.leak_holder_search.specs.Holders.{FindsHolders}
use Rattle.leak_holder_search.specs.Since.{counted_of}
use Rattle.leak_laws.specs.HeldTogether.{told_by_holders}
use Rattle.leak_laws.specs.ToldHolders.{ToldHolder}

-- the live blocks whose caller has the text, by number
abbrev pub blocks_with_text : List ℕ → List Block → List ℕ → List ℕ
blocks_with_text log blocks text = filter (λ b. bytes_eq (text_with (texts_of log blocks) b) text) (range_with_len 0 (length blocks))

-- a counted block that the text holds: a chain reaches it, and each such chain has a block of the text
pub record HoldsCounted (graph : Graph) (log : List ℕ) (blocks : List Block) (counted : List Bool) (text : List ℕ) : Type 0 where
  pub block : ℕ
  pub counts : IsTrue (slice_index_or counted block false)
  pub held : IsHeldBy graph (blocks_with_text log blocks text) block

-- a line has the text
abbrev pub HasLine : List ToldHolder → List ℕ → Type 0
HasLine rows text = IsTrue (list_any (λ h. bytes_eq h.text text) rows)

-- a marked block has the text of the line
abbrev pub IsOfMarked : List ℕ → List Block → List Bool → ToldHolder → Type 0
IsOfMarked log blocks set h = IsTrue (list_any (λ b. bytes_eq h.text (text_at log b.caller)) (marked_in set blocks))

-- no other text holds each block of the line's text that is reached
abbrev pub IsAlone : Graph → List ℕ → List Block → ToldHolder → Type 0
IsAlone graph log blocks h = (text : List ℕ) → AreHeldBy graph (blocks_with_text log blocks h.text) (blocks_with_text log blocks text) → text ≡ h.text

-- a line that is within none, of a text that holds the block
pub record HasOutermost (graph : Graph) (log : List ℕ) (blocks : List Block) (rows : List ToldHolder) (block : ℕ) : Type 0 where
  pub line : ToldHolder
  pub told : Contains rows line
  pub outermost : line.within ≡ 0
  pub holds : IsHeldBy graph (blocks_with_text log blocks line.text) block

-- just the texts that hold a counted block have a line
abbrev pub HoldersHaveLines : Type 0
HoldersHaveLines = (core log : List ℕ) (since : Option (List ℕ)) (reading : Distances) (skip : Skip) (found : Holding)
    → (f : FindsHolders core log since reading skip found) → (text : List ℕ)
    → HasLine (told_by_holders f).rows text ↔ HoldsCounted (graph_of_one core reading skip f.lines) log (live_of f.lines) (counted_of since (live_of f.lines)) text

-- each line's text is that of a marked block
abbrev pub LinesAreOfMarked : Type 0
LinesAreOfMarked = (core log : List ℕ) (since : Option (List ℕ)) (reading : Distances) (skip : Skip) (found : Holding)
    → (f : FindsHolders core log since reading skip found) → AllByRecursion (IsOfMarked log (live_of f.lines) f.set) (told_by_holders f).rows

-- just the lines that are alone are within none
abbrev pub AloneAreWithinNone : Type 0
AloneAreWithinNone = (core log : List ℕ) (since : Option (List ℕ)) (reading : Distances) (skip : Skip) (found : Holding)
    → (f : FindsHolders core log since reading skip found)
    → AllByRecursion (λ h. (h.within ≡ 0) ↔ IsAlone (graph_of_one core reading skip f.lines) log (live_of f.lines) h) (told_by_holders f).rows

-- each counted block that is marked is held by the text of a line within none
abbrev pub OutermostHoldMarked : Type 0
OutermostHoldMarked = (core log : List ℕ) (since : Option (List ℕ)) (reading : Distances) (skip : Skip) (found : Holding)
    → (f : FindsHolders core log since reading skip found) → (block : ℕ)
    → IsTrue (slice_index_or (counted_of since (live_of f.lines)) block false) → IsTrue (slice_index_or f.set block false)
    → HasOutermost (graph_of_one core reading skip f.lines) log (live_of f.lines) (told_by_holders f).rows block
