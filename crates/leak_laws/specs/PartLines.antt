-- Which texts have a line in an answer about chosen blocks, and the order of the lines.
use Rattle.std.specs.Prelude.{◌≡◌, ◌↔◌, ℕ, Bool, false, List, [], ◌∷◌, bytes_eq, if◌then◌else◌, slice_index_or, Option, IfSome, IsTrue}
use Rattle.std.specs.List.{AllByRecursion, list_any}
use Rattle.std.specs.List.Sorted.{IsStrictlySortedBy}
use Rattle.std.specs.Cmp.Lexicographic.{slice_cmp}
use Rattle.std.specs.Ordering.{nat_cmp, ordering_then}
use Rattle.std.specs.declared.cmp.Ordering.{Ordering}
use Rattle.leak_blocks.specs.declared.block.Block.{Block}
use Rattle.leak_blocks.specs.Live.{live_of}
use Rattle.leak_index.specs.Leads.{Distances}
use Rattle.leak_roots.specs.declared.skip.Skip.{Skip}
use Rattle.leak_marks.specs.Lists.{Has}
use Rattle.leak_marks.specs.Reach.{Graph}
use Rattle.leak_without.specs.Without.{IsHeldBy}
use Rattle.leak_report.specs.Numbered.{text_with, texts_of}
use Rattle.leak_holders.specs.declared.question.Question.{Question}
use Rattle.leak_holders.specs.declared.question.Side.TheVariants.{In, Of}
use Rattle.leak_search.specs.Search.{graph_of_one}
use Rattle.leak_holder_search.specs.declared.search.Holding.{Holding}
use Rattle.leak_holder_search.specs.Held.{FindsHeld}
use Rattle.leak_holder_search.specs.Since.{counted_of}
use Rattle.leak_laws.specs.HeldOneLine.{told_by_answer}
use Rattle.leak_laws.specs.HolderLines.{blocks_with_text}
use Rattle.leak_laws.specs.ToldAnswers.{ToldPart}

-- more bytes first, ties by the ascending bytes of the text
abbrev pub rank_part : ToldPart → ToldPart → Ordering
rank_part p q = ordering_then (nat_cmp q.bytes p.bytes) (slice_cmp nat_cmp p.text q.text)

abbrev pub DifferInPart : List ToldPart → Type 0
DifferInPart [] = Unit {0}
DifferInPart (p ∷ parts) = AllByRecursion (λ q. bytes_eq p.text q.text ≡ false) parts × DifferInPart parts

-- the lines are in order, and each text has one at most
pub record AreOrdered (parts : List ToldPart) : Type 0 where
  pub ranked : IsStrictlySortedBy rank_part parts
  pub differ : DifferInPart parts

-- a line has the text
abbrev pub HasPart : List ToldPart → List ℕ → Type 0
HasPart parts text = IsTrue (list_any (λ p. bytes_eq p.text text) parts)

-- the chosen blocks: that with the number, alone, or all of its text
abbrev pub chosen_blocks : List ℕ → List Block → ℕ → Bool → List ℕ
chosen_blocks log blocks block alone = if alone then block ∷ [] else blocks_with_text log blocks (text_with (texts_of log blocks) block)

-- a counted block of the text, which the chosen blocks hold
pub record IsHeldWith (graph : Graph) (log : List ℕ) (blocks : List Block) (counted : List Bool) (chosen text : List ℕ) : Type 0 where
  pub block : ℕ
  pub counts : IsTrue (slice_index_or counted block false)
  pub of_text : text_with (texts_of log blocks) block ≡ text
  pub held : IsHeldBy graph chosen block

-- a counted one of the chosen blocks, which the text holds
pub record HoldsChosen (graph : Graph) (log : List ℕ) (blocks : List Block) (counted : List Bool) (chosen text : List ℕ) : Type 0 where
  pub block : ℕ
  pub counts : IsTrue (slice_index_or counted block false)
  pub is_chosen : Has chosen block
  pub held : IsHeldBy graph (blocks_with_text log blocks text) block

abbrev pub PartsAreOrdered : Type 0
PartsAreOrdered = (core log : List ℕ) (since : Option (List ℕ)) (reading : Distances) (skip : Skip) (question : Question) (found : Holding)
    → (f : FindsHeld core log since reading skip question found) → IfSome (told_by_answer f).rows (λ r. AreOrdered r.parts)

-- of what chosen blocks hold, just the texts of counted blocks that they hold have a line
abbrev pub InTextsHaveLines : Type 0
InTextsHaveLines = (core log : List ℕ) (since : Option (List ℕ)) (reading : Distances) (skip : Skip) (question : Question) (found : Holding)
    → (f : FindsHeld core log since reading skip question found) → question.side ≡ In
    → IfSome (told_by_answer f).rows (λ r. (text : List ℕ) → HasPart r.parts text
    ↔ IsHeldWith (graph_of_one core reading skip f.lines) log (live_of f.lines) (counted_of since (live_of f.lines))
    (chosen_blocks log (live_of f.lines) f.block question.alone) text)

-- of who holds chosen blocks, just the other texts that hold a counted one of them have a line
abbrev pub ByTextsHaveLines : Type 0
ByTextsHaveLines = (core log : List ℕ) (since : Option (List ℕ)) (reading : Distances) (skip : Skip) (question : Question) (found : Holding)
    → (f : FindsHeld core log since reading skip question found) → question.side ≡ Of
    → IfSome (told_by_answer f).rows (λ r. (text : List ℕ) → HasPart r.parts text
    ↔ ((text ≡ (told_by_answer f).asked.text → ⊥) × HoldsChosen (graph_of_one core reading skip f.lines) log (live_of f.lines)
    (counted_of since (live_of f.lines)) (chosen_blocks log (live_of f.lines) f.block question.alone) text))
