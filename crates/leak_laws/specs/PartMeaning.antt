-- What a line of an answer about chosen blocks says of its text.
use Rattle.std.specs.Prelude.{◌≡◌, ℕ, Bool, false, List, length, slice_index_or, Option, IfSome, IsTrue}
use Rattle.std.specs.List.{AllByRecursion}
use Rattle.leak_blocks.specs.declared.block.Block.{Block}
use Rattle.leak_blocks.specs.Live.{live_of}
use Rattle.leak_index.specs.Leads.{Distances}
use Rattle.leak_roots.specs.declared.skip.Skip.{Skip}
use Rattle.leak_marks.specs.Lists.{Has}
use Rattle.leak_marks.specs.Reach.{Graph}
use Rattle.leak_without.specs.Without.{IsHeldBy}
use Rattle.leak_holders.specs.declared.question.Question.{Question}
use Rattle.leak_holders.specs.declared.question.Side.TheVariants.{In, Of}
use Rattle.leak_search.specs.Search.{graph_of_one}
use Rattle.leak_holder_search.specs.declared.search.Holding.{Holding}
use Rattle.leak_holder_search.specs.Held.{FindsHeld}
use Rattle.leak_holder_search.specs.Since.{counted_of}
use Rattle.leak_laws.specs.HeldOneLine.{told_by_answer}
use Rattle.leak_laws.specs.HolderLines.{blocks_with_text}
use Rattle.leak_laws.specs.HolderMeaning.{Numbers, sizes_of}
use Rattle.leak_laws.specs.PartLines.{chosen_blocks}
use Rattle.leak_laws.specs.ToldAnswers.{ToldPart}

-- a counted block of the text, which the chosen blocks hold
abbrev pub IsIn : Graph → List ℕ → List Block → List Bool → List ℕ → List ℕ → ℕ → Type 0
IsIn graph log live counted chosen text b = IsTrue (slice_index_or counted b false) × Has (blocks_with_text log live text) b × IsHeldBy graph chosen b

-- a counted one of the chosen blocks, which the text holds
abbrev pub IsBy : Graph → List ℕ → List Block → List Bool → List ℕ → List ℕ → ℕ → Type 0
IsBy graph log live counted chosen text b = IsTrue (slice_index_or counted b false) × Has chosen b × IsHeldBy graph (blocks_with_text log live text) b

-- the line has the number of these blocks, and the sum of their sizes
pub record IsSum (live : List Block) (P : ℕ → Type 0) (p : ToldPart) : Type 0 where
  pub ones : Numbers P
  pub blocks : p.blocks ≡ length ones.list
  pub bytes : p.bytes ≡ sizes_of live ones.list

abbrev pub InLinesAreSums : Type 0
InLinesAreSums = (core log : List ℕ) (since : Option (List ℕ)) (reading : Distances) (skip : Skip) (question : Question) (found : Holding)
    → (f : FindsHeld core log since reading skip question found) → question.side ≡ In
    → IfSome (told_by_answer f).rows (λ r. AllByRecursion (λ p. IsSum (live_of f.lines) (IsIn (graph_of_one core reading skip f.lines) log (live_of f.lines)
    (counted_of since (live_of f.lines)) (chosen_blocks log (live_of f.lines) f.block question.alone) p.text) p) r.parts)

abbrev pub ByLinesAreSums : Type 0
ByLinesAreSums = (core log : List ℕ) (since : Option (List ℕ)) (reading : Distances) (skip : Skip) (question : Question) (found : Holding)
    → (f : FindsHeld core log since reading skip question found) → question.side ≡ Of
    → IfSome (told_by_answer f).rows (λ r. AllByRecursion (λ p. IsSum (live_of f.lines) (IsBy (graph_of_one core reading skip f.lines) log (live_of f.lines)
    (counted_of since (live_of f.lines)) (chosen_blocks log (live_of f.lines) f.block question.alone) p.text) p) r.parts)
