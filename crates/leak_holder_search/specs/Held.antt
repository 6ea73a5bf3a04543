-- What chosen blocks hold, or who holds them: an answer about one block, or about all blocks of its text (own rule, as for holders).
use Rattle.std.specs.Prelude.{◌≡◌, ◌↔◌, ℕ, ◌^◌, ◌<◌, Bool, false, ◌&&◌, ◌==◌, List, ◌++◌, length, map, flat_map, codes, decimal, slice_index, slice_index_or, if◌then◌else◌, Option, IsTrue}
use Rattle.std.specs.List.{list_any, range_with_len}
use Rattle.leak_mtrace.specs.declared.line.Line.{Line}
use Rattle.leak_mtrace.specs.Log.{IsLog}
use Rattle.leak_blocks.specs.declared.block.Block.{Block}
use Rattle.leak_blocks.specs.Live.{live_of}
use Rattle.leak_index.specs.Leads.{Distances}
use Rattle.leak_roots.specs.declared.skip.Skip.{Skip}
use Rattle.leak_marks.specs.Reach.{Graph, Reach}
use Rattle.leak_without.specs.Without.{chosen, IsHeldBy}
use Rattle.leak_pool.specs.Marking.{IsSet}
use Rattle.leak_report.specs.Totals.{marked_in}
use Rattle.leak_report.specs.Lines.{blocks_line, newline}
use Rattle.leak_report.specs.Numbered.{AreTexts, text_with}
use Rattle.leak_holders.specs.declared.block_table.BlockTable.{BlockTable}
use Rattle.leak_holders.specs.declared.caller_share.CallerShare.{CallerShare}
use Rattle.leak_holders.specs.declared.question.Question.{Question}
use Rattle.leak_holders.specs.declared.question.Side.{Side}
use Rattle.leak_holders.specs.declared.question.Side.TheVariants.{In, Of}
use Rattle.leak_holders.specs.Parts.{AreHoldersOf, parts_by}
use Rattle.leak_search.specs.Inputs.{IsCore}
use Rattle.leak_why.specs.Asked.{IsAsked, AreNotAsked}
use Rattle.leak_why.specs.Text.{numbered_line}
use Rattle.leak_search.specs.declared.why.WhyError.{WhyError}
use Rattle.leak_search.specs.declared.why.WhyError.TheVariants.{Find, NoBlock}
use Rattle.leak_search.specs.Search.{graph_of_one}
use Rattle.leak_holder_search.specs.declared.search.Holding.{Holding}
use Rattle.leak_holder_search.specs.Holders.{IsFaultOfHolders}
use Rattle.leak_holder_search.specs.Rows.{AreKnown}
use Rattle.leak_holder_search.specs.Since.{counted_of, is_continued_from}

-- for each block, whether it is of both sets
abbrev pub both : List Bool → List Bool → List Bool
both xs ys = map (λ b. slice_index_or xs b false && slice_index_or ys b false) (range_with_len 0 (length xs))

-- for each block, by the numbers of texts, whether it is the one with the number, alone, or has its text
abbrev pub chosen_with : List ℕ → ℕ → Bool → List Bool
chosen_with numbers block alone =
    map (λ b. if alone then b == block else slice_index numbers b == slice_index numbers block) (range_with_len 0 (length numbers))

-- What the chosen blocks hold: `told` are the counted ones of it, and the rows are those of their texts.
pub record AreHeldIn (graph : Graph) (f : BlockTable) (texts : ℕ) (set told : List Bool) (parts : List CallerShare) : Type 0 where
  pub held : List Bool
  pub len : length held ≡ length graph.targets
  pub holds : (b : ℕ) → b < length graph.targets → (IsTrue (slice_index_or held b false) ↔ IsHeldBy graph (chosen set) b)
  pub told_are : told ≡ both held f.counted.now
  pub rows : parts ≡ parts_by f (λ b. slice_index_or held b false) texts

-- Who holds the chosen blocks: `told` are the counted and reached ones, and the rows are those of the texts, except one, that hold some.
pub record AreHeldOf (graph : Graph) (f : BlockTable) (texts : ℕ) (set : List Bool) (but : ℕ) (told : List Bool) (parts : List CallerShare) : Type 0 where
  pub told_are : told ≡ both (both set f.reached.now) f.counted.now
  pub rows : AreHoldersOf graph f texts set but parts

abbrev pub AreHeld : Side → Graph → BlockTable → ℕ → List Bool → ℕ → List Bool → List CallerShare → Type 0
AreHeld In graph f texts set but told parts = AreHeldIn graph f texts set told parts
AreHeld Of graph f texts set but told parts = AreHeldOf graph f texts set but told parts

-- the first word of a row
abbrev pub side_word : Side → List ℕ
side_word In = codes "in"
side_word Of = codes "by"

-- a row up to its text
abbrev pub part_front : Side → CallerShare → List ℕ
part_front side part = side_word side ++ (codes " " ++ (decimal part.blocks ++ (codes " " ++ (decimal part.bytes ++ codes " "))))

abbrev pub part_line : Side → List (List ℕ) → CallerShare → List ℕ
part_line side texts part = part_front side part ++ text_with texts part.text ++ newline

-- the lines after that of the asked block: own are the chosen blocks that are reached
abbrev pub held_lines : Side → List Block → List Bool → List Bool → List (List ℕ) → List CallerShare → List ℕ
held_lines side blocks own told texts parts =
    if list_any (λ x. x) own then blocks_line (codes "held") (marked_in told blocks) ++ flat_map (part_line side texts) parts else codes "leaked" ++ newline

unfoldable pub held_text : List ℕ → List Block → ℕ → Side → List Bool → List Bool → List (List ℕ) → List CallerShare → List ℕ
held_text log blocks block side own told texts parts =
    numbered_line (codes "asked") log blocks block ++ held_lines side blocks own told texts parts

-- Core and log are free of faults, the earlier log's complete lines begin the log, and the address asks for a block. The answer is about
-- that block, or about all blocks of its text, by the chains of a search.
pub record FindsHeld (core log : List ℕ) (since : Option (List ℕ)) (reading : Distances) (skip : Skip) (question : Question) (found : Holding) : Type 0 where
  pub accepted : IsCore core
  pub continued : IsTrue (is_continued_from since log)
  pub lines : List Line
  pub is_log : IsLog log lines
  pub few : length (live_of lines) < 2 ^ 32
  pub block : ℕ
  pub asked : IsAsked (live_of lines) question.address block
  pub set : List Bool
  pub marked : IsSet set (length (live_of lines)) (Reach (graph_of_one core reading skip lines))
  pub texts : List (List ℕ)
  pub numbers : List ℕ
  pub numbered : AreTexts log (live_of lines) texts numbers
  pub table : BlockTable
  pub known : AreKnown (live_of lines) numbers set (counted_of since (live_of lines)) table
  pub told : List Bool
  pub parts : List CallerShare
  pub are : AreHeld question.side (graph_of_one core reading skip lines) table (length texts) (chosen_with numbers block question.alone)
      (slice_index numbers block) told parts
  pub report : found.report.items
      ≡ held_text log (live_of lines) block question.side (both (chosen_with numbers block question.alone) set) told texts parts

-- the files have a fault, the first; or they have none, and no live block is asked for
abbrev pub IsHeldFault : List ℕ → List ℕ → Option (List ℕ) → ℕ → WhyError → Type 0
IsHeldFault core log since address (Find e) = IsFaultOfHolders core log since e
IsHeldFault core log since address (NoBlock a) =
    (a ≡ address) × IsCore core × IsTrue (is_continued_from since log)
    × ((lines : List Line) × IsLog log lines × AreNotAsked (live_of lines) address (length (live_of lines)))
