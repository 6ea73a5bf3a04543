-- The lines of holders, by the texts that they have.
use Rattle.std.proofs.Common.{◌≡◌, ℕ, zero, suc, ◌<◌, ◌≤◌, inl, inr, ⊎_elim, Bool, true, false, ◌||◌, List, [], ◌∷◌, length, map, bytes_eq, get_or, refl, sym, ap, subst, ◌∙◌, arith}
use Rattle.std.specs.Prelude.{◌↔◌, IsTrue, slice_index_or}
use Rattle.std.specs.List.{AllByRecursion, Contains, list_any}
use Rattle.std.proofs.lemmas.Bool.{cases_eq, cases_lt}
use Rattle.std.proofs.lemmas.List.{get_or-map, get_or_past}
use Rattle.std.proofs.lemmas.Slice.Eq.{bytes_eq-Decides}
use Rattle.leak_growth.proofs.SumLemmas.{one_place}
use Rattle.leak_blocks.specs.declared.block.Block.{Block}
use Rattle.leak_marks.specs.Reach.{Graph}
use Rattle.leak_without.specs.Without.{AreHeldBy, IsHeldBy, graph_of, members}
use Rattle.leak_report.specs.Totals.{marked_in, text_at}
use Rattle.leak_lemmas.proofs.Members.{Has, Has-map, each_implied, each_mapped, get_Has as contained}
use Rattle.leak_report.specs.Numbered.{AreTexts, text_with}
use Rattle.leak_holders.specs.declared.block_table.BlockTable.{BlockTable}
use Rattle.leak_holders.specs.declared.holder.Holder.{Holder}
use Rattle.leak_holders.specs.Holders.{is_within}
use Rattle.leak_holders.specs.Laws.{AreRowsOf}
use Rattle.leak_holders.specs.Words.{table_of}
use Rattle.leak_laws.specs.HolderLines.{HasLine, HasOutermost, HoldsCounted, IsAlone, IsOfMarked, blocks_with_text}
use Rattle.leak_laws.specs.ToldHolders.{ToldHolder, told_holder}
use Rattle.leak_laws.proofs.HolderRows.{Row as RowOf, holder_rows, row_holds, row_there}
use Rattle.leak_laws.proofs.OuterTexts.{count_within, held_within, holder_reached, outer, within_held}
use Rattle.leak_laws.proofs.Ranges.{passes_some, some_passes}
use Rattle.leak_laws.proofs.TextBlocks.{by_number, by_text, holder_text, holds_by_number, holds_by_text, inside_text}

pub any_has : {X : Type 0} (p : X → Bool) (xs : List X) (x : X) → Has xs x → p x ≡ true → list_any p xs ≡ true
any_has p [] x has is = absurd has
any_has p (y ∷ ys) x (inl e) is = let here : p y ≡ true = ap p e ∙ is in ap (λ (t : Bool). t || list_any p ys) here
any_has p (y ∷ ys) x (inr has) is = go (p y) (any_has p ys x has is)
  where
    go : (t : Bool) → list_any p ys ≡ true → (t || list_any p ys) ≡ true
    go true e = refl
    go false e = e

-- what follows from an element that passes follows if any passes
pub any_of : {X R : Type 0} (p : X → Bool) (P : X → Type 0) (xs : List X) → AllByRecursion P xs → ((x : X) → P x → p x ≡ true → R) → list_any p xs ≡ true → R
any_of p P [] all f some = cc
any_of {X} {R} p P (x ∷ xs) all f some = go (p x) refl some (λ rest. any_of p P xs all.1 f rest)
  where
    go : (t : Bool) → p x ≡ t → (t || list_any p xs) ≡ true → (list_any p xs ≡ true → R) → R
    go true e any later = f x all.0 e
    go false e any later = later any

any_marked : (p : Block → Bool) (set : List Bool) (blocks : List Block) (i : ℕ) (d : Block) → i < length blocks → get_or set i false ≡ true → p (get_or blocks i d) ≡ true → list_any p (marked_in set blocks) ≡ true
any_marked p [] blocks i d low is passes = cc
any_marked p (s ∷ set) [] i d low is passes = absurd (omega arith)
any_marked p (true ∷ set) (b ∷ blocks) zero d low is passes = ap (λ (t : Bool). t || list_any p (marked_in set blocks)) passes
any_marked p (false ∷ set) (b ∷ blocks) zero d low is passes = cc
any_marked p (true ∷ set) (b ∷ blocks) (suc i) d low is passes = go (p b) (any_marked p set blocks i d (omega arith) is passes)
  where
    go : (t : Bool) → list_any p (marked_in set blocks) ≡ true → (t || list_any p (marked_in set blocks)) ≡ true
    go true e = refl
    go false e = e
any_marked p (false ∷ set) (b ∷ blocks) (suc i) d low is passes = any_marked p set blocks i d (omega arith) is passes

pub inside_tests : (tests : List Bool) (b : ℕ) → slice_index_or tests b false ≡ true → b < length tests
inside_tests tests b is = ⊎_elim (λ (low : b < length tests). low) (λ (high : length tests ≤ b). let e : get_or tests b false ≡ false = get_or_past tests b false high in absurd (cc)) (cases_lt b (length tests))

module _ (first : List ℕ) (targets : List (List ℕ)) (log : List ℕ) (blocks : List Block) (texts : List (List ℕ)) (numbers : List ℕ) (set counted : List Bool) (rows : List Holder)
    (of : AreRowsOf (graph_of first targets) (table_of blocks numbers set counted) (length texts) rows) (are : AreTexts log blocks texts numbers) where
  abbrev graph : Graph
  graph = graph_of first targets

  abbrev known : BlockTable
  known = table_of blocks numbers set counted

  abbrev Row : Holder → Type 0
  Row r = RowOf graph known (length texts) rows of r

  abbrev lines : List ToldHolder
  lines = map (told_holder blocks texts) rows

  lines_each : (P : ToldHolder → Type 0) → ((r : Holder) → Row r → P (told_holder blocks texts r)) → AllByRecursion P lines
  lines_each P f = each_mapped (told_holder blocks texts) P rows (each_implied Row (λ r. P (told_holder blocks texts r)) f rows (holder_rows graph known (length texts) rows of))

  holds_counted : (r : Holder) → Row r → HoldsCounted graph log blocks counted (text_with texts r.text)
  holds_counted r row =
      let one = row_holds graph known (length texts) rows of r row in
      record { block = one.block; counts = one.counts; held = holds_by_number log blocks texts numbers are graph r.text row.low one.block one.held }

  line_there : (text : List ℕ) → HoldsCounted graph log blocks counted text → HasLine lines text
  line_there text one =
      let named = holder_text log blocks texts numbers are first targets text one.block one.held in
      let held = holds_by_text log blocks texts numbers are graph named.number named.low one.block (subst (λ (t : List ℕ). IsHeldBy graph (blocks_with_text log blocks t) one.block) named.is one.held) in
      let inside = inside_tests counted one.block one.counts in
      let there = row_there graph known (length texts) rows of named.number one.block named.low (omega (arith, inside, of.complete.counted)) held one.counts in
      any_has (λ h. bytes_eq h.text text) lines _ (Has-map (told_holder blocks texts) rows _ there) ((bytes_eq-Decides (text_with texts named.number) text).1 (sym named.is))

  pub lines_are : (text : List ℕ) → HasLine lines text ↔ HoldsCounted graph log blocks counted text
  lines_are text = (
    any_of (λ h. bytes_eq h.text text) (λ h. HoldsCounted graph log blocks counted h.text) lines (lines_each (λ h. HoldsCounted graph log blocks counted h.text) holds_counted)
        (λ h holds same. subst (HoldsCounted graph log blocks counted) ((bytes_eq-Decides h.text text).0 same) holds),
    line_there text,
  )

  pub lines_of_marked : AllByRecursion (IsOfMarked log blocks set) lines
  lines_of_marked = lines_each (IsOfMarked log blocks set)
      (λ r row.
      let one = row_holds graph known (length texts) rows of r row in
      let own = holder_reached first targets (members numbers r.text) one.block one.held in
      let parts = inside_text log blocks texts numbers are (text_with texts r.text) own.block (by_number log blocks texts numbers are r.text row.low own.block own.«in») in
      let d : Block = record { start = 0; size = 0; line = 0; caller = (0, 0) } in
      any_marked (λ b. bytes_eq (text_with texts r.text) (text_at log b.caller)) set blocks own.block d parts.0
      ((of.reached.each own.block (omega (arith, parts.0, of.one_each))).1 own.reached)
      ((bytes_eq-Decides (text_with texts r.text) (text_at log (get_or blocks own.block d).caller)).1 (sym parts.1 ∙ get_or-map (λ b. text_at log b.caller) blocks own.block d [] parts.0)))

  pub lines_alone : AllByRecursion (λ h. (h.within ≡ 0) ↔ IsAlone graph log blocks h) lines
  lines_alone = lines_each (λ h. (h.within ≡ 0) ↔ IsAlone graph log blocks h) (λ r row. (none r row, alone r row))
    where
      many : (r : Holder) → Row r → r.within ≡ count_within first targets known (length texts) rows of r.text
      many r row = ap (λ (s : Holder). s.within) row.is

      none : (r : Holder) → Row r → r.within ≡ 0 → IsAlone graph log blocks (told_holder blocks texts r)
      none r row zero_within text by =
          let one = row_holds graph known (length texts) rows of r row in
          let own = holder_reached first targets (members numbers r.text) one.block one.held in
          let named = holder_text log blocks texts numbers are first targets text own.block (by own.block (by_number log blocks texts numbers are r.text row.low own.block own.«in») own.reached) in
          let by_it : AreHeldBy graph (members numbers r.text) (members numbers named.number) =
          λ c i reached. holds_by_text log blocks texts numbers are graph named.number named.low c
          (subst (λ (t : List ℕ). IsHeldBy graph (blocks_with_text log blocks t) c) named.is (by c (by_number log blocks texts numbers are r.text row.low c i) reached)) in
          ⊎_elim (λ (e : named.number ≡ r.text). named.is ∙ ap (text_with texts) e)
          (λ (apart : named.number ≡ r.text → ⊥).
          let is = held_within first targets known (length texts) rows of r.text named.number named.low apart by_it in
          let some = passes_some (is_within known of.hold.held r.text) 0 (length texts) named.number (omega arith) (omega (arith, named.low)) is in
          absurd (omega (arith, some, many r row, zero_within))) (cases_eq named.number r.text)

      alone : (r : Holder) → Row r → IsAlone graph log blocks (told_holder blocks texts r) → r.within ≡ 0
      alone r row only =
          ⊎_elim (λ (some : 0 < count_within first targets known (length texts) rows of r.text).
          let one = some_passes (is_within known of.hold.held r.text) 0 (length texts) some in
          let low : one.number < length texts = omega (arith, one.high) in
          let by = within_held first targets known (length texts) rows of r.text one.number low one.passes in
          let same : text_with texts one.number ≡ text_with texts r.text = only (text_with texts one.number)
          (λ c i reached. holds_by_number log blocks texts numbers are graph one.number low c (by.1 c (by_text log blocks texts numbers are r.text row.low c i) reached)) in
          absurd (by.0 (one_place texts one.number r.text are.ascending low row.low same)))
          (λ (no_more : count_within first targets known (length texts) rows of r.text ≤ 0). omega (arith, no_more, many r row)) (cases_lt 0 (count_within first targets known (length texts) rows of r.text))

  pub outermost_hold : (b : ℕ) → IsTrue (slice_index_or counted b false) → IsTrue (slice_index_or set b false) → HasOutermost graph log blocks lines b
  outermost_hold b counts marked =
      let low = inside_tests counted b counts in
      let inside : b < length blocks = omega (arith, low, of.complete.counted) in
      let in_graph : b < length targets = omega (arith, inside, of.one_each) in
      let o = outer first targets known (length texts) rows of b in_graph ((of.reached.each b in_graph).0 marked) in
      let there = row_there graph known (length texts) rows of o.text b o.low inside o.holds counts in
      record {
        line = told_holder blocks texts _;
        told = contained lines _ (Has-map (told_holder blocks texts) rows _ there);
        outermost = o.outermost;
        holds = holds_by_number log blocks texts numbers are graph o.text o.low b o.holds;
      }
