-- Each line of holders says what its text holds.
use Rattle.std.proofs.Common.{◌≡◌, ℕ, ◌<◌, ◌≤◌, ◌==◌, ⊎_elim, Bool, true, false, ◌&&◌, List, [], ◌∷◌, length, map, filter, get_or, refl, sym, ap, subst, ◌∙◌, arith}
use Rattle.std.specs.Prelude.{IsTrue, slice_index_or}
use Rattle.std.specs.List.{AllByRecursion, Contains, range_with_len}
use Rattle.std.specs.List.Sorted.{IsStrictlySortedBy}
use Rattle.std.specs.Cmp.Lexicographic.{slice_cmp}
use Rattle.std.specs.Ordering.{nat_cmp}
use Rattle.std.specs.declared.cmp.Ordering.TheVariants.{Less}
use Rattle.std.proofs.lemmas.Bool.{and_from, and_parts, cases_eq, eq-eqb, eqb-true}
use Rattle.std.proofs.lemmas.List.{length-map}
use Rattle.std.proofs.lemmas.Map.Keys.{Less-from_sorted}
use Rattle.leak_growth.proofs.SumLemmas.{one_place}
use Rattle.leak_blocks.specs.declared.block.Block.{Block}
use Rattle.leak_blocks.specs.Span.{AreDisjoint}
use Rattle.leak_marks.specs.Reach.{Graph}
use Rattle.leak_without.specs.Without.{AreHeldBy, IsHeldBy, graph_of, members}
use Rattle.leak_lemmas.proofs.Members.{All-from_each, Has-filter, Has-map, each_filtered, each_implied, each_mapped, get_Has as contained}
use Rattle.leak_report.specs.Numbered.{AreTexts, text_with}
use Rattle.leak_holders.specs.declared.block_table.BlockTable.{BlockTable}
use Rattle.leak_holders.specs.declared.holder.Holder.{Holder}
use Rattle.leak_holders.specs.Holders.{is_counted, is_own, is_reached, is_within, text_of}
use Rattle.leak_holders.specs.Laws.{AreRowsOf}
use Rattle.leak_holders.specs.Words.{table_of}
use Rattle.leak_alike.proofs.Ranges.{range_each}
use Rattle.leak_laws.specs.HolderLines.{blocks_with_text}
use Rattle.leak_laws.specs.HolderMeaning.{IsOwn, IsSaid, Numbers, Texts, block_at}
use Rattle.leak_laws.specs.ToldHolders.{ToldHolder, told_holder}
use Rattle.leak_laws.proofs.HolderRows.{Row as RowOf, holder_rows, row_holds}
use Rattle.leak_laws.proofs.LineHolders.{inside_tests}
use Rattle.leak_laws.proofs.OuterTexts.{held_within, holder_reached, within_held}
use Rattle.leak_laws.proofs.RangeLists.{first_passing, passing, passing_sorted}
use Rattle.leak_laws.proofs.Ranges.{in_range}
use Rattle.leak_laws.proofs.SameHeld.{apart_at}
use Rattle.leak_laws.proofs.ToldOrder.{less_is}
use Rattle.leak_laws.proofs.TextBlocks.{by_number, by_text, has_text, holder_text, holds_by_number, holds_by_text, inside_text, number_low, text_is}

-- blocks are in the order of their addresses
starts_up : (blocks : List Block) (i j : ℕ) → AreDisjoint blocks → i ≤ j → j < length blocks → (block_at blocks i).start ≤ (block_at blocks j).start
starts_up blocks i j apart le low =
    ⊎_elim (λ (e : i ≡ j). let same : (block_at blocks i).start ≡ (block_at blocks j).start = ap (λ (k : ℕ). (block_at blocks k).start) e in omega (arith, same))
    (λ (ne : i ≡ j → ⊥). let after = apart_at blocks i j (record { start = 0; size = 0; line = 0; caller = (0, 0) }) apart (omega (arith, ne)) low in omega (arith, after)) (cases_eq i j)

-- ascending numbers are of ascending texts
texts_up : (texts : List (List ℕ)) (ns : List ℕ) → IsStrictlySortedBy (slice_cmp nat_cmp) texts → IsStrictlySortedBy nat_cmp ns → AllByRecursion (λ n. n < length texts) ns
    → IsStrictlySortedBy (slice_cmp nat_cmp) (map (text_with texts) ns)
unfolding IsStrictlySortedBy
texts_up texts [] up ascending low = tt
texts_up texts (n ∷ ns) up ascending low = (each_mapped (text_with texts) (λ t. slice_cmp nat_cmp (text_with texts n) t ≡ Less) ns (over ns ascending.0 low.1), texts_up texts ns up ascending.1 low.1)
  where
    over : (ms : List ℕ) → AllByRecursion (λ m. nat_cmp n m ≡ Less) ms → AllByRecursion (λ m. m < length texts) ms → AllByRecursion (λ m. slice_cmp nat_cmp (text_with texts n) (text_with texts m) ≡ Less) ms
    over [] less inside = tt
    over (m ∷ ms) less inside = (Less-from_sorted (slice_cmp nat_cmp) texts n m [] up (less_is n m less.0) inside.0, over ms less.1 inside.1)

module _ (first : List ℕ) (targets : List (List ℕ)) (log : List ℕ) (blocks : List Block) (texts : List (List ℕ)) (numbers : List ℕ) (set counted : List Bool) (rows : List Holder)
    (of : AreRowsOf (graph_of first targets) (table_of blocks numbers set counted) (length texts) rows) (are : AreTexts log blocks texts numbers) (apart : AreDisjoint blocks) where
  abbrev graph : Graph
  graph = graph_of first targets

  abbrev known : BlockTable
  known = table_of blocks numbers set counted

  abbrev Row : Holder → Type 0
  Row r = RowOf graph known (length texts) rows of r

  abbrev told : Holder → ToldHolder
  told r = told_holder blocks texts r

  inside_counted : (b : ℕ) → IsTrue (slice_index_or counted b false) → b < length blocks
  inside_counted b counts = let low = inside_tests counted b counts in omega (arith, low, of.complete.counted)

  abbrev held_by_line : (r : Holder) → Row r → Numbers (λ b. IsTrue (slice_index_or counted b false) × IsHeldBy graph (blocks_with_text log blocks (text_with texts r.text)) b)
  held_by_line r row = passing (λ b. IsTrue (slice_index_or counted b false) × IsHeldBy graph (blocks_with_text log blocks (text_with texts r.text)) b) (λ b. of.hold.held r.text b && is_counted known b) (length blocks)
      (λ b low is. let parts = and_parts (of.hold.held r.text b) (is_counted known b) is in
      (parts.1, holds_by_number log blocks texts numbers are graph r.text row.low b ((of.hold.holds r.text b row.low (omega (arith, low, of.one_each))).0 parts.0)))
      (λ b h. let low = inside_counted b h.0 in
      (low, and_from (of.hold.held r.text b) (is_counted known b) ((of.hold.holds r.text b row.low (omega (arith, low, of.one_each))).1 (holds_by_text log blocks texts numbers are graph r.text row.low b h.1)) h.0))

  -- own blocks by number, and by the text
  own_is : (r : Holder) → Row r → (b : ℕ) → b < length blocks → is_own known r.text b ≡ true → IsOwn log blocks set (told r) b
  own_is r row b low is =
      let parts = and_parts (is_reached known b) (text_of known b == r.text) is in
      (parts.0, has_text log blocks texts numbers are (text_with texts r.text) b low (text_is log blocks texts numbers are b low ∙ ap (text_with texts) (eqb-true (text_of known b) r.text parts.1)))

  is_own_by : (r : Holder) → Row r → (b : ℕ) → IsOwn log blocks set (told r) b → (b < length blocks) × (is_own known r.text b ≡ true)
  is_own_by r row b own =
      let parts = inside_text log blocks texts numbers are (text_with texts r.text) b own.1 in (
        parts.0,
        and_from (is_reached known b) (text_of known b == r.text) own.0
            (eq-eqb (text_of known b) r.text (one_place texts (get_or numbers b 0) r.text are.ascending (number_low log blocks texts numbers are b parts.0) row.low (sym (text_is log blocks texts numbers are b parts.0) ∙ parts.1))),
      )

  abbrev owned_by_line : (r : Holder) → Row r → Numbers (λ b. IsTrue (slice_index_or counted b false) × IsOwn log blocks set (told r) b)
  owned_by_line r row = passing (λ b. IsTrue (slice_index_or counted b false) × IsOwn log blocks set (told r) b) (λ b. is_own known r.text b && is_counted known b) (length blocks)
      (λ b low is. let parts = and_parts (is_own known r.text b) (is_counted known b) is in (parts.1, own_is r row b low parts.0))
      (λ b h. let own = is_own_by r row b h.1 in (own.0, and_from (is_own known r.text b) (is_counted known b) own.1 h.0))

  -- ---- the texts that it is within

  abbrev Outside : Holder → List ℕ → Type 0
  Outside r text = (text ≡ text_with texts r.text → ⊥) × AreHeldBy graph (blocks_with_text log blocks (text_with texts r.text)) (blocks_with_text log blocks text)

  abbrev outer_numbers : Holder → List ℕ
  outer_numbers r = filter (is_within known of.hold.held r.text) (range_with_len 0 (length texts))

  outer_each : (r : Holder) → Row r → AllByRecursion (λ n. (n < length texts) × Outside r (text_with texts n)) (outer_numbers r)
  outer_each r row =
      each_implied (λ n. (n < length texts) × (is_within known of.hold.held r.text n ≡ true)) (λ n. (n < length texts) × Outside r (text_with texts n))
      (λ n h. let by = within_held first targets known (length texts) rows of r.text n h.0 h.1 in (
        h.0,
        (λ same. by.0 (one_place texts n r.text are.ascending h.0 row.low same), λ c i reached. holds_by_number log blocks texts numbers are graph n h.0 c (by.1 c (by_text log blocks texts numbers are r.text row.low c i) reached)),
      )) (outer_numbers r)
      (each_filtered (is_within known of.hold.held r.text) (λ n. n < length texts) (range_with_len 0 (length texts)) (range_each (λ n. n < length texts) 0 (length texts) (λ n l h. omega (arith, h))))

  outer_has : (r : Holder) → Row r → (text : List ℕ) → Outside r text → Contains (map (text_with texts) (outer_numbers r)) text
  outer_has r row text out =
      let one = row_holds graph known (length texts) rows of r row in
      let own = holder_reached first targets (members numbers r.text) one.block one.held in
      let named = holder_text log blocks texts numbers are first targets text own.block (out.1 own.block (by_number log blocks texts numbers are r.text row.low own.block own.«in») own.reached) in
      let by_it : AreHeldBy graph (members numbers r.text) (members numbers named.number) =
      λ c i reached. holds_by_text log blocks texts numbers are graph named.number named.low c
      (subst (λ (t : List ℕ). IsHeldBy graph (blocks_with_text log blocks t) c) named.is (out.1 c (by_number log blocks texts numbers are r.text row.low c i) reached)) in
      let is = held_within first targets known (length texts) rows of r.text named.number named.low (λ e. out.0 (named.is ∙ ap (text_with texts) e)) by_it in
      subst (Contains (map (text_with texts) (outer_numbers r))) (sym named.is)
      (contained (map (text_with texts) (outer_numbers r)) (text_with texts named.number)
      (Has-map (text_with texts) (outer_numbers r) named.number
      (Has-filter (is_within known of.hold.held r.text) (range_with_len 0 (length texts)) named.number (in_range 0 (length texts) named.number (omega arith) (omega (arith, named.low))) is)))

  abbrev outer_texts : (r : Holder) → Row r → Texts (Outside r)
  outer_texts r row =
      let all = outer_each r row in
      record {
        list = map (text_with texts) (outer_numbers r);
        ascending = texts_up texts (outer_numbers r) are.ascending (passing_sorted (is_within known of.hold.held r.text) (length texts))
            (each_implied (λ n. (n < length texts) × Outside r (text_with texts n)) (λ n. n < length texts) (λ n h. h.0) (outer_numbers r) all);
        each = λ text. (
          λ there. subst (Outside r) there.2 (All-from_each (Outside r) (map (text_with texts) (outer_numbers r))
              (each_mapped (text_with texts) (Outside r) (outer_numbers r) (each_implied (λ n. (n < length texts) × Outside r (text_with texts n)) (λ n. Outside r (text_with texts n)) (λ n h. h.1) (outer_numbers r) all))
              there.0 text there.1),
          outer_has r row text,
        );
      }

  -- ---- the line

  said : (r : Holder) → Row r → IsSaid graph log blocks set counted (told r)
  said r row =
      let one = row_holds graph known (length texts) rows of r row in
      let own = holder_reached first targets (members numbers r.text) one.block one.held in
      let parts = inside_text log blocks texts numbers are (text_with texts r.text) own.block (by_number log blocks texts numbers are r.text row.low own.block own.«in») in
      let marked : IsTrue (slice_index_or set own.block false) = (of.reached.each own.block (omega (arith, parts.0, of.one_each))).1 own.reached in
      let mine : IsOwn log blocks set (told r) own.block = (marked, by_number log blocks texts numbers are r.text row.low own.block own.«in») in
      let at : r.block ≡ get_or (filter (is_own known r.text) (range_with_len 0 (length blocks))) 0 0 = ap (λ (s : Holder). s.block) row.is in
      let first_of : (b : ℕ) → IsOwn log blocks set (told r) b → (is_own known r.text r.block ≡ true) × (r.block ≤ b) =
      λ b is. let by = is_own_by r row b is in let f = first_passing (is_own known r.text) 0 (length blocks) b (omega arith) (omega (arith, by.0)) by.1 in
      (subst (λ (n : ℕ). is_own known r.text n ≡ true) (sym at) f.passes, omega (arith, f.least, at)) in
      let least = first_of own.block mine in
      record {
        held = held_by_line r row;
        blocks = ap (λ (s : Holder). s.blocks) row.is;
        bytes = ap (λ (s : Holder). s.bytes) row.is;
        owned = owned_by_line r row;
        own = ap (λ (s : Holder). s.own) row.is;
        own_bytes = ap (λ (s : Holder). s.own_bytes) row.is;
        others = outer_texts r row;
        within = ap (λ (s : Holder). s.within) row.is ∙ sym (length-map (outer_numbers r) (text_with texts));
        first = r.block;
        first_own = own_is r row r.block (omega (arith, least.1, parts.0)) least.0;
        start = refl;
        least = λ b is. let inside = is_own_by r row b is in starts_up blocks r.block b apart (first_of b is).1 inside.0;
      }

  pub lines_said : AllByRecursion (IsSaid graph log blocks set counted) (map (told_holder blocks texts) rows)
  lines_said = each_mapped (told_holder blocks texts) (IsSaid graph log blocks set counted) rows
      (each_implied Row (λ r. IsSaid graph log blocks set counted (told_holder blocks texts r)) said rows (holder_rows graph known (length texts) rows of))
