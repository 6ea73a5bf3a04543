-- Each line of an answer about chosen blocks says what it is to say.
use Rattle.std.proofs.Common.{◌≡◌, ℕ, ◌<◌, ◌==◌, Bool, false, ◌&&◌, List, length, map, filter, get_or, refl, sym, ap, subst, ◌∙◌, arith}
use Rattle.std.specs.Prelude.{◌↔◌, IsTrue, slice_index, slice_index_or}
use Rattle.std.specs.List.{AllByRecursion}
use Rattle.std.proofs.lemmas.Bool.{and_from, and_parts, eq-eqb, eqb-true}
use Rattle.leak_growth.proofs.SumLemmas.{one_place}
use Rattle.leak_blocks.specs.declared.block.Block.{Block}
use Rattle.leak_marks.specs.Reach.{Graph}
use Rattle.leak_without.specs.Without.{IsHeldBy, chosen, graph_of}
use Rattle.leak_without.proofs.HeldLemmas.{larger_hold_as_much}
use Rattle.leak_lemmas.proofs.Members.{each_implied}
use Rattle.leak_report.specs.Numbered.{text_with}
use Rattle.leak_holders.specs.declared.block_table.BlockTable.{BlockTable}
use Rattle.leak_holders.specs.declared.holder.Holder.{Holder}
use Rattle.leak_holders.specs.declared.caller_share.CallerShare.{CallerShare}
use Rattle.leak_holders.specs.Holders.{is_counted}
use Rattle.leak_holders.specs.Parts.{AreHoldersOf, counted_in, part_of_row, parts_by}
use Rattle.leak_holders.specs.Words.{table_of}
use Rattle.leak_holder_search.specs.Held.{chosen_with}
use Rattle.leak_laws.specs.PartLines.{chosen_blocks}
use Rattle.leak_laws.specs.PartMeaning.{IsBy, IsIn, IsSum}
use Rattle.leak_laws.specs.ToldAnswers.{ToldPart, told_part}
use Rattle.leak_laws.proofs.ChosenBlocks.{chosen_told, of_chosen, to_chosen, told_chosen}
use Rattle.leak_laws.proofs.HolderTables.{IsKnown}
use Rattle.leak_laws.proofs.HolderRows.{Row as RowOf}
use Rattle.leak_laws.proofs.LineHolders.{inside_tests}
use Rattle.leak_laws.proofs.LineParts.{by_each, counted_at, in_each, lines_each, passes, rows_of_set}
use Rattle.leak_laws.proofs.PartRows.{in_parts, in_row, in_rows}
use Rattle.leak_laws.proofs.RangeLists.{passing}
use Rattle.leak_laws.proofs.RowOrder.{IsRow}
use Rattle.leak_laws.proofs.TextBlocks.{has_text, holds_by_number, holds_by_text, inside_text, number_low, text_is}

module _ (first : List ℕ) (targets : List (List ℕ)) (log : List ℕ) (blocks : List Block) (texts : List (List ℕ)) (numbers : List ℕ) (set counted : List Bool)
    (known : IsKnown (graph_of first targets) log blocks texts numbers set counted) (block : ℕ) (alone : Bool) (inside : block < length blocks) where
  abbrev graph : Graph
  graph = graph_of first targets

  abbrev table : BlockTable
  table = table_of blocks numbers set counted

  abbrev own : List Bool
  own = chosen_with numbers block alone

  abbrev chosen_ones : List ℕ
  chosen_ones = chosen_blocks log blocks block alone

  abbrev InSum : ToldPart → Type 0
  InSum p = IsSum blocks (IsIn graph log blocks counted chosen_ones p.text) p

  abbrev BySum : ToldPart → Type 0
  BySum p = IsSum blocks (IsBy graph log blocks counted chosen_ones p.text) p

  inside_counted : (b : ℕ) → IsTrue (slice_index_or counted b false) → b < length blocks
  inside_counted b counts = let low = inside_tests counted b counts in omega (arith, low, known.complete.counted)

  -- ---- what the chosen blocks hold

  module _ (held : List Bool) (holds : (b : ℕ) → b < length targets → (IsTrue (slice_index_or held b false) ↔ IsHeldBy (graph_of first targets) (chosen (chosen_with numbers block alone)) b)) where
    in_sum : (r : Holder) → IsRow (in_row table (length texts) held) (λ t. refl) (length texts) r → InSum (told_part texts (part_of_row r))
    in_sum r row = record {
      ones = passing (IsIn graph log blocks counted chosen_ones (text_with texts r.text)) (λ b. (slice_index_or held b false && (get_or numbers b 0 == r.text)) && slice_index_or counted b false) (length blocks)
          (λ b low is.
          let parts = and_parts (slice_index_or held b false && (get_or numbers b 0 == r.text)) (slice_index_or counted b false) is in
          let both = and_parts (slice_index_or held b false) (get_or numbers b 0 == r.text) parts.0 in (
            parts.1,
            has_text log blocks texts numbers known.numbered (text_with texts r.text) b low (text_is log blocks texts numbers known.numbered b low ∙ ap (text_with texts) (eqb-true (get_or numbers b 0) r.text both.1)),
            larger_hold_as_much graph (chosen own) chosen_ones (of_chosen log blocks texts numbers known.numbered block inside alone) b ((holds b (omega (arith, low, known.one_each))).0 both.0),
          ))
          (λ b h.
          let there = inside_text log blocks texts numbers known.numbered (text_with texts r.text) b h.1 in
          let same : get_or numbers b 0 ≡ r.text =
          one_place texts (get_or numbers b 0) r.text known.numbered.ascending (number_low log blocks texts numbers known.numbered b there.0) row.low (sym (text_is log blocks texts numbers known.numbered b there.0) ∙ there.1) in
          let is = (holds b (omega (arith, there.0, known.one_each))).1 (larger_hold_as_much graph chosen_ones (chosen own) (to_chosen log blocks texts numbers known.numbered block inside alone) b h.2) in (
            there.0,
            and_from (slice_index_or held b false && (get_or numbers b 0 == r.text)) (slice_index_or counted b false)
                (and_from (slice_index_or held b false) (get_or numbers b 0 == r.text) is (eq-eqb (get_or numbers b 0) r.text same)) h.0,
          ));
      blocks = ap (λ (s : Holder). s.blocks) row.is;
      bytes = ap (λ (s : Holder). s.bytes) row.is;
    }

    pub in_sums : AllByRecursion InSum (map (told_part texts) (parts_by table (λ b. slice_index_or held b false) (length texts)))
    in_sums =
        subst (λ (parts : List CallerShare). AllByRecursion InSum (map (told_part texts) parts)) (sym (in_parts table (length texts) held))
        (lines_each texts InSum (in_rows table (length texts) held)
        (each_implied (IsRow (in_row table (length texts) held) (λ t. refl) (length texts)) (λ r. InSum (told_part texts (part_of_row r))) in_sum
        (in_rows table (length texts) held) (in_each first targets log blocks texts numbers set counted known held)))

  -- ---- who holds them

  module _ (parts : List CallerShare) (of : AreHoldersOf (graph_of first targets) (table_of blocks numbers set counted) (length texts) (chosen_with numbers block alone) (slice_index numbers block) parts) where
    abbrev Row : Holder → Type 0
    Row r = RowOf graph (counted_in table own) (length texts) of.holders (rows_of_set first targets log blocks texts numbers set counted known own (slice_index numbers block) parts of) r

    counts_at : (b : ℕ) → b < length blocks → is_counted (counted_in table own) b ≡ (slice_index_or counted b false && slice_index_or own b false)
    counts_at b low = counted_at first targets log blocks texts numbers set counted known own (slice_index numbers block) parts of b low

    by_sum : (r : Holder) → Row r → BySum (told_part texts (part_of_row r))
    by_sum r row = record {
      ones = passing (IsBy graph log blocks counted chosen_ones (text_with texts r.text)) (λ b. of.hold.held r.text b && is_counted (counted_in table own) b) (length blocks)
          (λ b low is.
          let parts = and_parts (of.hold.held r.text b) (is_counted (counted_in table own) b) is in
          let both = and_parts (slice_index_or counted b false) (slice_index_or own b false) (sym (counts_at b low) ∙ parts.1) in (
            both.0,
            told_chosen log blocks texts numbers known.numbered block inside alone b low both.1,
            holds_by_number log blocks texts numbers known.numbered graph r.text row.low b ((of.hold.holds r.text b row.low (omega (arith, low, known.one_each))).0 parts.0),
          ))
          (λ b h.
          let told = chosen_told log blocks texts numbers known.numbered block inside alone b h.1 in
          let held = (of.hold.holds r.text b row.low (omega (arith, told.0, known.one_each))).1 (holds_by_text log blocks texts numbers known.numbered graph r.text row.low b h.2) in (
            told.0,
            and_from (of.hold.held r.text b) (is_counted (counted_in table own) b) held (counts_at b told.0 ∙ and_from (slice_index_or counted b false) (slice_index_or own b false) h.0 told.1),
          ));
      blocks = ap (λ (s : Holder). s.blocks) row.is;
      bytes = ap (λ (s : Holder). s.bytes) row.is;
    }

    pub by_sums : AllByRecursion BySum (map (told_part texts) parts)
    by_sums =
        let kept : List Holder = filter (λ r. passes first targets log blocks texts numbers set counted known own (slice_index numbers block) parts of r) of.holders in
        subst (λ (ps : List CallerShare). AllByRecursion BySum (map (told_part texts) ps)) (sym of.are)
        (lines_each texts BySum kept
        (each_implied _ (λ r. BySum (told_part texts (part_of_row r))) (λ r h. by_sum r h.0) kept
        (by_each first targets log blocks texts numbers set counted known own (slice_index numbers block) parts of)))
