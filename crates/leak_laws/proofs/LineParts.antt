-- The lines of answers about chosen blocks, by the texts that they have.
use Rattle.std.proofs.Common.{◌≡◌, ℕ, ◌<◌, ◌==◌, Bool, true, false, not, ◌&&◌, List, [], ◌∷◌, length, map, filter, bytes_eq, get_or, refl, sym, ap, subst, ◌∙◌, arith}
use Rattle.std.specs.Prelude.{◌↔◌, IsTrue, slice_index, slice_index_or}
use Rattle.std.specs.List.{AllByRecursion}
use Rattle.std.specs.List.Sorted.{IsStrictlySortedBy}
use Rattle.std.specs.declared.cmp.Ordering.TheVariants.{Less}
use Rattle.std.proofs.lemmas.Bool.{and_from, and_parts, ne_eqb}
use Rattle.std.proofs.lemmas.List.FromFn.{get_or-map-range_with_len, length-map-range_with_len}
use Rattle.std.proofs.lemmas.List.Kept.{IsStrictlySortedBy-filter}
use Rattle.std.proofs.lemmas.Slice.Eq.{bytes_eq-Decides}
use Rattle.leak_growth.proofs.SumLemmas.{one_place}
use Rattle.leak_blocks.specs.declared.block.Block.{Block}
use Rattle.leak_marks.specs.Reach.{Graph}
use Rattle.leak_without.specs.Without.{IsHeldBy, chosen, graph_of}
use Rattle.leak_without.proofs.HeldLemmas.{larger_hold_as_much}
use Rattle.leak_lemmas.proofs.Members.{Has, Has-filter, Has-map, each_filtered, each_implied, each_mapped}
use Rattle.leak_report.specs.Numbered.{text_with, texts_of}
use Rattle.leak_holders.specs.declared.block_table.BlockTable.{BlockTable}
use Rattle.leak_holders.specs.declared.holder.Holder.{Holder}
use Rattle.leak_holders.specs.declared.caller_share.CallerShare.{CallerShare}
use Rattle.leak_holders.specs.Holders.{is_counted, rank, row_of}
use Rattle.leak_holders.specs.Laws.{AreRowsOf}
use Rattle.leak_holders.specs.Parts.{AreHoldersOf, counted_in, part_of_row, parts_by}
use Rattle.leak_holders.specs.Words.{table_of}
use Rattle.leak_laws.specs.HeldTogether.{DifferInHolder, rank_holder}
use Rattle.leak_laws.specs.HolderLines.{blocks_with_text}
use Rattle.leak_laws.specs.PartLines.{AreOrdered, DifferInPart, HasPart, HoldsChosen, IsHeldWith, chosen_blocks, rank_part}
use Rattle.leak_holder_search.specs.Held.{chosen_with}
use Rattle.leak_laws.specs.ToldAnswers.{ToldPart, told_part}
use Rattle.leak_laws.specs.ToldHolders.{told_holder}
use Rattle.leak_laws.proofs.ChosenBlocks.{chosen_told, of_chosen, to_chosen, told_chosen}
use Rattle.leak_laws.proofs.HolderTables.{IsKnown}
use Rattle.leak_laws.proofs.HolderRows.{Row as RowOf, holder_rows, row_holds, row_there}
use Rattle.leak_laws.proofs.LineHolders.{any_has, any_of, inside_tests}
use Rattle.leak_laws.proofs.OuterTexts.{other_than}
use Rattle.leak_laws.proofs.PartRows.{in_holds, in_parts, in_row, in_rows, in_there}
use Rattle.leak_laws.proofs.RowOrder.{IsRow, rows_each, rows_sorted}
use Rattle.leak_laws.proofs.TextBlocks.{holder_text, holds_by_number, holds_by_text, number_low, text_is}
use Rattle.leak_laws.proofs.ToldOrder.{told_differ, told_sorted}

-- ---- lines of rows

abbrev pub lines_of : List (List ℕ) → List Holder → List ToldPart
lines_of texts rows = map (told_part texts) (map part_of_row rows)

pub lines_each : (texts : List (List ℕ)) (P : ToldPart → Type 0) (rows : List Holder) → AllByRecursion (λ r. P (told_part texts (part_of_row r))) rows → AllByRecursion P (lines_of texts rows)
lines_each texts P rows all = each_mapped (told_part texts) P (map part_of_row rows) (each_mapped part_of_row (λ p. P (told_part texts p)) rows all)

line_in : (texts : List (List ℕ)) (rows : List Holder) (r : Holder) (text : List ℕ) → Has rows r → text_with texts r.text ≡ text → HasPart (lines_of texts rows) text
line_in texts rows r text has is =
    any_has (λ p. bytes_eq p.text text) (lines_of texts rows) (told_part texts (part_of_row r)) (Has-map (told_part texts) (map part_of_row rows) (part_of_row r) (Has-map part_of_row rows r has))
    ((bytes_eq-Decides (text_with texts r.text) text).1 is)

has_line : (texts : List (List ℕ)) (P : List ℕ → Type 0) (rows : List Holder) (text : List ℕ) → AllByRecursion (λ r. P (text_with texts r.text)) rows → HasPart (lines_of texts rows) text → P text
has_line texts P rows text all some =
    any_of (λ p. bytes_eq p.text text) (λ p. P p.text) (lines_of texts rows) (lines_each texts (λ p. P p.text) rows all) (λ p holds same. subst P ((bytes_eq-Decides p.text text).0 same) holds) some

module _ (blocks : List Block) (texts : List (List ℕ)) where
  parts_up : (rows : List Holder) → IsStrictlySortedBy rank_holder (map (told_holder blocks texts) rows) → IsStrictlySortedBy rank_part (lines_of texts rows)
  unfolding IsStrictlySortedBy
  parts_up [] up = tt
  parts_up (r ∷ rows) up = (over rows up.0, parts_up rows up.1)
    where
      over : (ss : List Holder) → AllByRecursion (λ k. rank_holder (told_holder blocks texts r) k ≡ Less) (map (told_holder blocks texts) ss) → AllByRecursion (λ q. rank_part (told_part texts (part_of_row r)) q ≡ Less) (lines_of texts ss)
      over [] less = tt
      over (s ∷ ss) less = (less.0, over ss less.1)

  parts_differ : (rows : List Holder) → DifferInHolder (map (told_holder blocks texts) rows) → DifferInPart (lines_of texts rows)
  parts_differ [] apart = tt
  parts_differ (r ∷ rows) apart = (others rows apart.0, parts_differ rows apart.1)
    where
      others : (ss : List Holder) → AllByRecursion (λ k. bytes_eq (text_with texts r.text) k.text ≡ false) (map (told_holder blocks texts) ss) → AllByRecursion (λ q. bytes_eq (text_with texts r.text) q.text ≡ false) (lines_of texts ss)
      others [] differ = tt
      others (s ∷ ss) differ = (differ.0, others ss differ.1)

module _ (first : List ℕ) (targets : List (List ℕ)) (log : List ℕ) (blocks : List Block) (texts : List (List ℕ)) (numbers : List ℕ) (set counted : List Bool)
    (known : IsKnown (graph_of first targets) log blocks texts numbers set counted) where
  abbrev graph : Graph
  graph = graph_of first targets

  abbrev table : BlockTable
  table = table_of blocks numbers set counted

  -- ---- what the chosen blocks hold

  pub in_each : (held : List Bool) → AllByRecursion (λ r. IsRow (in_row table (length texts) held) (λ t. refl) (length texts) r) (in_rows table (length texts) held)
  in_each held = rows_each (in_row table (length texts) held) (λ t. refl) (length texts)

  pub in_ordered : (held : List Bool) → AreOrdered (map (told_part texts) (parts_by table (λ b. slice_index_or held b false) (length texts)))
  in_ordered held =
      let sorted = rows_sorted (in_row table (length texts) held) (λ t. refl) (length texts) in
      subst (λ (parts : List CallerShare). AreOrdered (map (told_part texts) parts)) (sym (in_parts table (length texts) held))
      (record {
        ranked = parts_up blocks texts (in_rows table (length texts) held) (told_sorted blocks texts known.numbered.ascending (in_row table (length texts) held) (λ t. refl) (in_rows table (length texts) held) (in_each held) sorted);
        differ = parts_differ blocks texts (in_rows table (length texts) held) (told_differ blocks texts known.numbered.ascending (in_row table (length texts) held) (λ t. refl) (in_rows table (length texts) held) (in_each held) sorted);
      })

  module _ (block : ℕ) (alone : Bool) (inside : block < length blocks) where
    abbrev chosen_ones : List ℕ
    chosen_ones = chosen_blocks log blocks block alone

    module _ (held : List Bool) (holds : (b : ℕ) → b < length targets → (IsTrue (slice_index_or held b false) ↔ IsHeldBy (graph_of first targets) (chosen (chosen_with numbers block alone)) b)) where
      in_all : (r : Holder) → IsRow (in_row table (length texts) held) (λ t. refl) (length texts) r → IsHeldWith graph log blocks counted chosen_ones (text_with texts r.text)
      in_all r row =
          let one = in_holds table (length texts) held r row in
          record {
            block = one.block;
            counts = one.counts;
            of_text = text_is log blocks texts numbers known.numbered one.block one.inside ∙ ap (text_with texts) one.of_text;
            held = larger_hold_as_much graph (chosen (chosen_with numbers block alone)) chosen_ones (of_chosen log blocks texts numbers known.numbered block inside alone) one.block
                ((holds one.block (omega (arith, one.inside, known.one_each))).0 one.is);
          }

      in_back : (text : List ℕ) → IsHeldWith graph log blocks counted chosen_ones text → HasPart (lines_of texts (in_rows table (length texts) held)) text
      in_back text one =
          let tested = inside_tests counted one.block one.counts in
          let low : one.block < length blocks = omega (arith, tested, known.complete.counted) in
          let is = (holds one.block (omega (arith, low, known.one_each))).1
          (larger_hold_as_much graph chosen_ones (chosen (chosen_with numbers block alone)) (to_chosen log blocks texts numbers known.numbered block inside alone) one.block one.held) in
          line_in texts (in_rows table (length texts) held) (in_row table (length texts) held (get_or numbers one.block 0)) text
          (in_there table (length texts) held one.block low (number_low log blocks texts numbers known.numbered one.block low) is one.counts)
          (sym (text_is log blocks texts numbers known.numbered one.block low) ∙ one.of_text)

      pub in_lines : (text : List ℕ) → HasPart (map (told_part texts) (parts_by table (λ b. slice_index_or held b false) (length texts))) text ↔ IsHeldWith graph log blocks counted chosen_ones text
      in_lines text =
          subst (λ (parts : List CallerShare). HasPart (map (told_part texts) parts) text ↔ IsHeldWith graph log blocks counted chosen_ones text) (sym (in_parts table (length texts) held)) (
            has_line texts (IsHeldWith graph log blocks counted chosen_ones) (in_rows table (length texts) held) text
                (each_implied (IsRow (in_row table (length texts) held) (λ t. refl) (length texts)) (λ r. IsHeldWith graph log blocks counted chosen_ones (text_with texts r.text)) in_all (in_rows table (length texts) held) (in_each held)),
            in_back text,
          )

  -- ---- who holds the chosen blocks

  module _ (own : List Bool) (but : ℕ) (parts : List CallerShare) (of : AreHoldersOf (graph_of first targets) (table_of blocks numbers set counted) (length texts) own but parts) where
    abbrev counts_own : ℕ → Bool
    counts_own b = slice_index_or counted b false && slice_index_or own b false

    abbrev pub rows_of_set : AreRowsOf (graph_of first targets) (counted_in table own) (length texts) of.holders
    rows_of_set = record {
      one_each = known.one_each;
      complete = record {
        numbered = known.complete.numbered;
        of_texts = known.complete.of_texts;
        reached = known.complete.reached;
        counted = length-map-range_with_len (λ b. counts_own b) 0 (length blocks);
        few = known.complete.few;
        fits = known.complete.fits;
      };
      reached = known.reached;
      hold = of.hold;
    }

    pub counted_at : (b : ℕ) → b < length blocks → is_counted (counted_in table own) b ≡ counts_own b
    counted_at b low = get_or-map-range_with_len (λ c. counts_own c) 0 (length blocks) b b false low (omega arith)

    abbrev pub passes : Holder → Bool
    passes r = not (r.text == but)

    abbrev Row : Holder → Type 0
    Row r = RowOf (graph_of first targets) (counted_in table own) (length texts) of.holders rows_of_set r

    pub by_each : AllByRecursion (λ r. Row r × (passes r ≡ true)) (filter passes of.holders)
    by_each = each_filtered passes Row of.holders (holder_rows (graph_of first targets) (counted_in table own) (length texts) of.holders rows_of_set)

    pub by_ordered : AreOrdered (map (told_part texts) parts)
    by_ordered =
        let row : ℕ → Holder = row_of (counted_in table own) of.hold.held (length texts) in
        let all : AllByRecursion Row (filter passes of.holders) = each_implied (λ r. Row r × (passes r ≡ true)) Row (λ r h. h.0) (filter passes of.holders) by_each in
        let sorted : IsStrictlySortedBy rank (filter passes of.holders) = IsStrictlySortedBy-filter rank passes of.holders (subst (IsStrictlySortedBy rank) (sym of.hold.are) (rows_sorted row (λ t. refl) (length texts))) in
        subst (λ (ps : List CallerShare). AreOrdered (map (told_part texts) ps)) (sym of.are)
        (record {
          ranked = parts_up blocks texts (filter passes of.holders) (told_sorted blocks texts known.numbered.ascending row (λ t. refl) (filter passes of.holders) all sorted);
          differ = parts_differ blocks texts (filter passes of.holders) (told_differ blocks texts known.numbered.ascending row (λ t. refl) (filter passes of.holders) all sorted);
        })

  module _ (block : ℕ) (alone : Bool) (inside : block < length blocks) (parts : List CallerShare)
      (of : AreHoldersOf (graph_of first targets) (table_of blocks numbers set counted) (length texts) (chosen_with numbers block alone) (slice_index numbers block) parts) where
    abbrev own_table : BlockTable
    own_table = counted_in table (chosen_with numbers block alone)

    abbrev chosen_here : List ℕ
    chosen_here = chosen_blocks log blocks block alone

    abbrev Holds : List ℕ → Type 0
    Holds text = (text ≡ text_with (texts_of log blocks) block → ⊥) × HoldsChosen graph log blocks counted chosen_here text

    abbrev of_set : AreRowsOf (graph_of first targets) own_table (length texts) of.holders
    of_set = rows_of_set (chosen_with numbers block alone) (slice_index numbers block) parts of

    by_all : (r : Holder) → (RowOf graph own_table (length texts) of.holders of_set r × (not (r.text == slice_index numbers block) ≡ true)) → Holds (text_with texts r.text)
    by_all r row =
        let one = row_holds graph own_table (length texts) of.holders of_set r row.0 in
        let both = and_parts (slice_index_or counted one.block false) (slice_index_or (chosen_with numbers block alone) one.block false)
        (sym (counted_at (chosen_with numbers block alone) (slice_index numbers block) parts of one.block one.inside) ∙ one.counts) in (
          λ e. other_than r.text (slice_index numbers block) row.1
              (one_place texts r.text (slice_index numbers block) known.numbered.ascending row.0.low (number_low log blocks texts numbers known.numbered block inside) (e ∙ text_is log blocks texts numbers known.numbered block inside)),
          record {
            block = one.block;
            counts = both.0;
            is_chosen = told_chosen log blocks texts numbers known.numbered block inside alone one.block one.inside both.1;
            held = holds_by_number log blocks texts numbers known.numbered graph r.text row.0.low one.block one.held;
          },
        )

    by_back : (text : List ℕ) → Holds text → HasPart (lines_of texts (filter (λ r. not (r.text == slice_index numbers block)) of.holders)) text
    by_back text h =
        let one = h.1 in
        let told = chosen_told log blocks texts numbers known.numbered block inside alone one.block one.is_chosen in
        let named = holder_text log blocks texts numbers known.numbered first targets text one.block one.held in
        let held = holds_by_text log blocks texts numbers known.numbered graph named.number named.low one.block (subst (λ (t : List ℕ). IsHeldBy graph (blocks_with_text log blocks t) one.block) named.is one.held) in
        let counts : is_counted own_table one.block ≡ true = counted_at (chosen_with numbers block alone) (slice_index numbers block) parts of one.block told.0
        ∙ and_from (slice_index_or counted one.block false) (slice_index_or (chosen_with numbers block alone) one.block false) one.counts told.1 in
        let there = row_there graph own_table (length texts) of.holders of_set named.number one.block named.low told.0 held counts in
        let apart : named.number ≡ slice_index numbers block → ⊥ = λ e. h.0 (named.is ∙ ap (text_with texts) e ∙ sym (text_is log blocks texts numbers known.numbered block inside)) in
        line_in texts (filter (λ r. not (r.text == slice_index numbers block)) of.holders) (row_of own_table of.hold.held (length texts) named.number) text
        (Has-filter (λ r. not (r.text == slice_index numbers block)) of.holders (row_of own_table of.hold.held (length texts) named.number) there (ap not (ne_eqb named.number (slice_index numbers block) apart))) (sym named.is)

    pub by_lines : (text : List ℕ) → HasPart (map (told_part texts) parts) text ↔ Holds text
    by_lines text =
        subst (λ (ps : List CallerShare). HasPart (map (told_part texts) ps) text ↔ Holds text) (sym of.are) (
          has_line texts Holds (filter (λ r. not (r.text == slice_index numbers block)) of.holders) text
              (each_implied _ (λ r. Holds (text_with texts r.text)) by_all (filter (λ r. not (r.text == slice_index numbers block)) of.holders) (by_each (chosen_with numbers block alone) (slice_index numbers block) parts of)),
          by_back text,
        )
