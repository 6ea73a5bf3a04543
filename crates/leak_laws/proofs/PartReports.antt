-- Which texts have a line in an answer about chosen blocks, and in what order.
use Rattle.std.proofs.Common.{◌≡◌, ◌↔◌, ℕ, Bool, true, false, List, [], length, map, Option, Some, None, sym, subst}
use Rattle.std.specs.Prelude.{IfSome, if◌then◌else◌, slice_index}
use Rattle.std.specs.List.{AllByRecursion, list_any}
use Rattle.std.proofs.lemmas.List.{get_or-map}
use Rattle.leak_blocks.specs.declared.block.Block.{Block}
use Rattle.leak_blocks.specs.Live.{live_of}
use Rattle.leak_index.specs.Leads.{Distances}
use Rattle.leak_roots.specs.declared.skip.Skip.{Skip}
use Rattle.leak_marks.specs.Reach.{Graph}
use Rattle.leak_pool.specs.Marking.{graph_of}
use Rattle.leak_report.specs.Totals.{marked_in, text_at}
use Rattle.leak_report.specs.Numbered.{text_with, texts_of}
use Rattle.leak_holders.specs.declared.caller_share.CallerShare.{CallerShare}
use Rattle.leak_holders.specs.declared.question.Question.{Question}
use Rattle.leak_holders.specs.declared.question.Side.{Side}
use Rattle.leak_holders.specs.declared.question.Side.TheVariants.{In, Of}
use Rattle.leak_holders.specs.Words.{table_of}
use Rattle.leak_search.specs.Search.{graph_of_one}
use Rattle.leak_holder_search.specs.declared.search.Holding.{Holding}
use Rattle.leak_holder_search.specs.Held.{AreHeld, AreHeldIn, AreHeldOf, FindsHeld, both, chosen_with}
use Rattle.leak_holder_search.specs.Since.{counted_of}
use Rattle.leak_laws.specs.HeldOneLine.{told_by_answer}
use Rattle.leak_laws.specs.PartLines.{AreOrdered, ByTextsHaveLines, HasPart, HoldsChosen, InTextsHaveLines, IsHeldWith, PartsAreOrdered, chosen_blocks}
use Rattle.leak_laws.specs.PartMeaning.{ByLinesAreSums, InLinesAreSums, IsBy, IsIn, IsSum}
use Rattle.leak_laws.specs.Reports.{sum_of}
use Rattle.leak_laws.specs.ToldAnswers.{ToldPart, ToldRows, told_part, told_rows}
use Rattle.leak_laws.proofs.HolderTables.{IsKnown, known_blocks}
use Rattle.leak_laws.proofs.LineParts.{by_lines, by_ordered, in_lines, in_ordered}
use Rattle.leak_laws.proofs.PartMeaning.{by_sums, in_sums}
use Rattle.leak_laws.proofs.SameRows.{known_in, known_of}

-- what holds of the lines holds of those of an answer, if it has lines
shown : (P : List ToldPart → Type 0) (blocks : List Block) (own told : List Bool) (texts : List (List ℕ)) (parts : List CallerShare) → P (map (told_part texts) parts) → IfSome (told_rows blocks own told texts parts) (λ r. P r.parts)
shown P blocks own told texts parts holds = go (list_any (λ x. x) own)
  where
    go : (b : Bool) → IfSome {T = ToldRows} (if b then Some (record { sum = sum_of (marked_in told blocks); parts = map (told_part texts) parts }) else None) (λ r. P r.parts)
    go true = holds
    go false = tt

module _ (core log : List ℕ) (since : Option (List ℕ)) (reading : Distances) (skip : Skip) (question : Question) (found : Holding) (f : FindsHeld core log since reading skip question found) where
  abbrev blocks : List Block
  blocks = live_of f.lines

  abbrev counted : List Bool
  counted = counted_of since (live_of f.lines)

  abbrev graph : Graph
  graph = graph_of_one core reading skip f.lines

  abbrev own : List Bool
  own = chosen_with f.numbers f.block question.alone

  known : IsKnown graph log blocks f.texts f.numbers f.set counted
  known = known_blocks core log since reading skip f.lines f.set f.texts f.numbers f.is_log f.few f.marked f.numbered

  abbrev Are : Side → Type 0
  Are side = AreHeld side graph f.table (length f.texts) own (slice_index f.numbers f.block) f.told f.parts

  held_in : Are In → AreHeldIn graph (table_of blocks f.numbers f.set counted) (length f.texts) own f.told f.parts
  held_in are = known_in graph blocks f.numbers f.set counted (length f.texts) own f.told f.parts f.table f.known are

  held_of : Are Of → AreHeldOf graph (table_of blocks f.numbers f.set counted) (length f.texts) own (slice_index f.numbers f.block) f.told f.parts
  held_of are = known_of graph blocks f.numbers f.set counted (length f.texts) own (slice_index f.numbers f.block) f.told f.parts f.table f.known are

  ordered_of : (side : Side) → Are side → AreOrdered (map (told_part f.texts) f.parts)
  unfolding graph_of
  ordered_of In are =
      let k = held_in are in
      subst (λ (parts : List CallerShare). AreOrdered (map (told_part f.texts) parts)) (sym k.rows) (in_ordered graph.first graph.targets log blocks f.texts f.numbers f.set counted known k.held)
  ordered_of Of are = by_ordered graph.first graph.targets log blocks f.texts f.numbers f.set counted known own (slice_index f.numbers f.block) f.parts (held_of are).rows

  ordered : IfSome (told_by_answer f).rows (λ r. AreOrdered r.parts)
  ordered = shown AreOrdered blocks (both own f.set) f.told f.texts f.parts (ordered_of question.side f.are)

  in_texts : Are In → (text : List ℕ) → HasPart (map (told_part f.texts) f.parts) text ↔ IsHeldWith graph log blocks counted (chosen_blocks log blocks f.block question.alone) text
  unfolding graph_of
  in_texts are text =
      let k = held_in are in
      subst (λ (parts : List CallerShare). HasPart (map (told_part f.texts) parts) text ↔ IsHeldWith graph log blocks counted (chosen_blocks log blocks f.block question.alone) text) (sym k.rows)
      (in_lines graph.first graph.targets log blocks f.texts f.numbers f.set counted known f.block question.alone f.asked.inside k.held k.holds text)

  by_texts : Are Of → (text : List ℕ) → HasPart (map (told_part f.texts) f.parts) text
      ↔ ((text ≡ (told_by_answer f).asked.text → ⊥) × HoldsChosen graph log blocks counted (chosen_blocks log blocks f.block question.alone) text)
  unfolding graph_of
  by_texts are text =
      let asked : text_with (texts_of log blocks) f.block ≡ (told_by_answer f).asked.text = get_or-map (λ b. text_at log b.caller) blocks f.block (record { start = 0; size = 0; line = 0; caller = (0, 0) }) [] f.asked.inside in
      subst (λ (t : List ℕ). HasPart (map (told_part f.texts) f.parts) text ↔ ((text ≡ t → ⊥) × HoldsChosen graph log blocks counted (chosen_blocks log blocks f.block question.alone) text)) asked
      (by_lines graph.first graph.targets log blocks f.texts f.numbers f.set counted known f.block question.alone f.asked.inside f.parts (held_of are).rows text)

  in_shown : question.side ≡ In → IfSome (told_by_answer f).rows (λ r. (text : List ℕ) → HasPart r.parts text ↔ IsHeldWith graph log blocks counted (chosen_blocks log blocks f.block question.alone) text)
  in_shown e = shown (λ parts. (text : List ℕ) → HasPart parts text ↔ IsHeldWith graph log blocks counted (chosen_blocks log blocks f.block question.alone) text) blocks (both own f.set) f.told f.texts f.parts
      (in_texts (subst Are e f.are))

  by_shown : question.side ≡ Of → IfSome (told_by_answer f).rows (λ r. (text : List ℕ) → HasPart r.parts text
      ↔ ((text ≡ (told_by_answer f).asked.text → ⊥) × HoldsChosen graph log blocks counted (chosen_blocks log blocks f.block question.alone) text))
  by_shown e = shown (λ parts. (text : List ℕ) → HasPart parts text ↔ ((text ≡ (told_by_answer f).asked.text → ⊥) × HoldsChosen graph log blocks counted (chosen_blocks log blocks f.block question.alone) text))
      blocks (both own f.set) f.told f.texts f.parts (by_texts (subst Are e f.are))

  abbrev InSum : ToldPart → Type 0
  InSum p = IsSum blocks (IsIn graph log blocks counted (chosen_blocks log blocks f.block question.alone) p.text) p

  abbrev BySum : ToldPart → Type 0
  BySum p = IsSum blocks (IsBy graph log blocks counted (chosen_blocks log blocks f.block question.alone) p.text) p

  in_said : Are In → AllByRecursion InSum (map (told_part f.texts) f.parts)
  unfolding graph_of
  in_said are =
      let k = held_in are in
      subst (λ (parts : List CallerShare). AllByRecursion InSum (map (told_part f.texts) parts)) (sym k.rows)
      (in_sums graph.first graph.targets log blocks f.texts f.numbers f.set counted known f.block question.alone f.asked.inside k.held k.holds)

  by_said : Are Of → AllByRecursion BySum (map (told_part f.texts) f.parts)
  unfolding graph_of
  by_said are = by_sums graph.first graph.targets log blocks f.texts f.numbers f.set counted known f.block question.alone f.asked.inside f.parts (held_of are).rows

  in_all : question.side ≡ In → IfSome (told_by_answer f).rows (λ r. AllByRecursion InSum r.parts)
  in_all e = shown (AllByRecursion InSum) blocks (both own f.set) f.told f.texts f.parts
      (in_said (subst Are e f.are))

  by_all : question.side ≡ Of → IfSome (told_by_answer f).rows (λ r. AllByRecursion BySum r.parts)
  by_all e = shown (AllByRecursion BySum) blocks (both own f.set) f.told f.texts f.parts
      (by_said (subst Are e f.are))

pub parts_are_ordered : PartsAreOrdered
parts_are_ordered core log since reading skip question found f = ordered core log since reading skip question found f

pub in_texts_have_lines : InTextsHaveLines
in_texts_have_lines core log since reading skip question found f e = in_shown core log since reading skip question found f e

pub by_texts_have_lines : ByTextsHaveLines
by_texts_have_lines core log since reading skip question found f e = by_shown core log since reading skip question found f e

pub in_lines_are_sums : InLinesAreSums
in_lines_are_sums core log since reading skip question found f e = in_all core log since reading skip question found f e

pub by_lines_are_sums : ByLinesAreSums
by_lines_are_sums core log since reading skip question found f e = by_all core log since reading skip question found f e
