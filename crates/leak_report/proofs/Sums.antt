-- The rows of some blocks are the one list that sums them up.
use Rattle.std.proofs.Common.{◌≡◌, ℕ, ◌<◌, ◌⊎◌, filter, Bool, true, false, cond, ◌||◌, List, [], ◌∷◌, length, map, bytes_eq, Some, inl, inr, refl, sym, ap, subst, ◌∙◌, arith}
use Rattle.std.specs.Prelude.{IfSome, slice_get}
use Rattle.std.specs.List.{list_any}
use Rattle.std.proofs.lemmas.Slice.Eq.{bytes_eq-Decides}
use Rattle.leak_report.specs.declared.totals.CallerRow.{CallerRow}
use Rattle.leak_report.specs.Totals.{Leak, bytes_in, heads_in, text_at, with_text, first_of_each, row_of, rank, ranked, rows_of}
use Rattle.leak_report.specs.Groups.{row_from, row_with}
use Rattle.leak_report.specs.Laws.{SumsUp, HasRow, AreSums}
use Rattle.leak_lemmas.proofs.Members.{Has, Has-filter, each_has, each_implied, each_itself, same_elements}
use Rattle.leak_report.proofs.Ranks.{rank_total, each_ranked, Has-ranked, sorted_ranked}
use Rattle.leak_report.proofs.Firsts.{IsRow, each_is_row, with_text-head, Has-row, all_differ}

sums_up : (log : List ℕ) (blocks : List Leak) (row : CallerRow) → IsRow log blocks row → SumsUp log blocks row
sums_up log blocks row is = go (with_text log (text_at log row.caller) blocks) refl is
  where
    go : (with : List Leak) → with_text log (text_at log row.caller) blocks ≡ with → row_from with ≡ Some row → SumsUp log blocks row
    go [] e r = cc
    go (b ∷ rest) e r =
        let same : record { blocks = length (b ∷ rest); bytes = bytes_in (b ∷ rest); heads = heads_in (b ∷ rest); caller = b.block.caller } ≡ row = cc in
        record {
          some = subst (λ (x : CallerRow). 0 < x.blocks) same (omega arith);
          count = sym (ap (λ (x : CallerRow). x.blocks) same) ∙ ap length (sym e);
          bytes = sym (ap (λ (x : CallerRow). x.bytes) same) ∙ ap bytes_in (sym e);
          heads = sym (ap (λ (x : CallerRow). x.heads) same) ∙ ap heads_in (sym e);
          first = subst (λ bs. IfSome (slice_get bs 0) (λ b. row.caller ≡ b.block.caller)) (sym e) (sym (ap (λ (x : CallerRow). x.caller) same));
        }

is_row : (log : List ℕ) (blocks : List Leak) (row : CallerRow) → SumsUp log blocks row → IsRow log blocks row
is_row log blocks row sums = go (with_text log (text_at log row.caller) blocks) refl
  where
    go : (with : List Leak) → with_text log (text_at log row.caller) blocks ≡ with → row_from with ≡ Some row
    go [] e = let none : row.blocks ≡ 0 = sums.count ∙ ap length e in absurd (omega (arith, sums.some))
    go (b ∷ rest) e =
        let count : length (b ∷ rest) ≡ row.blocks = ap length (sym e) ∙ sym sums.count in
        let bytes : bytes_in (b ∷ rest) ≡ row.bytes = ap bytes_in (sym e) ∙ sym sums.bytes in
        let heads : heads_in (b ∷ rest) ≡ row.heads = ap heads_in (sym e) ∙ sym sums.heads in
        let caller : row.caller ≡ b.block.caller = subst (λ bs. IfSome (slice_get bs 0) (λ b. row.caller ≡ b.block.caller)) e sums.first in
        ap (λ n. Some (record { blocks = n; bytes = bytes_in (b ∷ rest); heads = heads_in (b ∷ rest); caller = b.block.caller })) count
        ∙ ap (λ n. Some (record { blocks = row.blocks; bytes = n; heads = heads_in (b ∷ rest); caller = b.block.caller })) bytes
        ∙ ap (λ n. Some (record { blocks = row.blocks; bytes = row.bytes; heads = n; caller = b.block.caller })) heads
        ∙ ap (λ k. Some (record { blocks = row.blocks; bytes = row.bytes; heads = row.heads; caller = k })) (sym caller)

any_has : (p : CallerRow → Bool) (rows : List CallerRow) → list_any p rows ≡ true → (row : CallerRow) × Has rows row × (p row ≡ true)
any_has p [] e = cc
any_has p (r ∷ rows) e = go (p r) refl e (any_has p rows)
  where
    go : (t : Bool) → p r ≡ t → (t || list_any p rows) ≡ true → (list_any p rows ≡ true → (row : CallerRow) × Has rows row × (p row ≡ true)) → (row : CallerRow) × Has (r ∷ rows) row × (p row ≡ true)
    go true is e later = (r, inl refl, is)
    go false is e later = let at = later e in (at.0, inr at.1, at.2)

has_any : (p : CallerRow → Bool) (rows : List CallerRow) (row : CallerRow) → Has rows row → p row ≡ true → list_any p rows ≡ true
has_any p [] row has is = absurd has
has_any p (r ∷ rows) row (inl e) is = let here : p r ≡ true = ap p e ∙ is in ap (λ t. t || list_any p rows) here
has_any p (r ∷ rows) row (inr has) is = elim (p r) as (λ t. (t || list_any p rows) ≡ true) [ true ↦ refl | false ↦ has_any p rows row has is ]

unfiltered : {X : Type 0} (p : X → Bool) (xs : List X) (x : X) → Has (filter p xs) x → Has xs x
unfiltered p [] x has = has
unfiltered {X} p (y ∷ ys) x has = go (p y) has (unfiltered p ys x)
  where
    go : (t : Bool) → Has (cond t (y ∷ filter p ys) (filter p ys)) x → (Has (filter p ys) x → Has ys x) → (y ≡ x) ⊎ Has ys x
    go true (inl e) later = inl e
    go true (inr has) later = inr (later has)
    go false has later = inr (later has)

-- a block has a row of its text
row_of_each : (log : List ℕ) (blocks : List Leak) (b : Leak) → Has blocks b → (row : CallerRow) × IsRow log blocks row × (text_at log row.caller ≡ text_at log b.block.caller)
row_of_each log blocks b has =
    go (with_text log (text_at log b.block.caller) blocks) refl
    (Has-filter (λ (x : Leak). bytes_eq (text_at log x.block.caller) (text_at log b.block.caller)) blocks b has ((bytes_eq-Decides (text_at log b.block.caller) (text_at log b.block.caller)).1 refl))
  where
    go : (with : List Leak) → with_text log (text_at log b.block.caller) blocks ≡ with → Has with b → (row : CallerRow) × IsRow log blocks row × (text_at log row.caller ≡ text_at log b.block.caller)
    go [] e h = absurd h
    go (c ∷ rest) e h =
        let text : text_at log c.block.caller ≡ text_at log b.block.caller = with_text-head log (text_at log b.block.caller) blocks c rest e in
        (record { blocks = length (c ∷ rest); bytes = bytes_in (c ∷ rest); heads = heads_in (c ∷ rest); caller = c.block.caller }, ap (row_with log blocks) text ∙ ap row_from e, text)

-- and a row has a block
block_of_row : (log : List ℕ) (blocks : List Leak) (row : CallerRow) → IsRow log blocks row → (b : Leak) × Has blocks b × (text_at log b.block.caller ≡ text_at log row.caller)
block_of_row log blocks row is = go (with_text log (text_at log row.caller) blocks) refl is
  where
    go : (with : List Leak) → with_text log (text_at log row.caller) blocks ≡ with → row_from with ≡ Some row → (b : Leak) × Has blocks b × (text_at log b.block.caller ≡ text_at log row.caller)
    go [] e r = cc
    go (b ∷ rest) e r = (
      b,
      unfiltered (λ (x : Leak). bytes_eq (text_at log x.block.caller) (text_at log row.caller)) blocks b (subst (λ bs. Has bs b) (sym e) (inl refl)),
      with_text-head log (text_at log row.caller) blocks b rest e,
    )

found : (log : List ℕ) (blocks : List Leak) (rows : List CallerRow) → AreSums log blocks rows → (row : CallerRow) → IsRow log blocks row → Has rows row
found log blocks rows sums row is =
    let block = block_of_row log blocks row is in
    let any = any_has (λ r. bytes_eq (text_at log r.caller) (text_at log block.0.block.caller)) rows (each_has (HasRow log rows) blocks block.0 sums.every block.1) in
    let text : text_at log any.0.caller ≡ text_at log row.caller = (bytes_eq-Decides (text_at log any.0.caller) (text_at log block.0.block.caller)).0 any.2 ∙ block.2 in
    let other : IsRow log blocks any.0 = is_row log blocks any.0 (each_has (SumsUp log blocks) rows any.0 sums.each any.1) in
    let both : Some any.0 ≡ Some row = sym other ∙ ap (row_with log blocks) text ∙ is in
    let same : any.0 ≡ row = cc in
    subst (Has rows) same any.1

pub one_list : (log : List ℕ) (blocks : List Leak) (rows : List CallerRow) → AreSums log blocks rows → rows ≡ rows_of log blocks
unfolding rows_of
one_list log blocks rows sums =
    let each : List CallerRow = map (row_of log blocks) (first_of_each log blocks) in
    same_elements (rank log) (rank_total log) rows (ranked log each) sums.order (sorted_ranked log each (all_differ log blocks blocks))
    (each_implied (SumsUp log blocks) (Has (ranked log each)) (λ r s. Has-ranked log each r (Has-row log blocks r (is_row log blocks r s))) rows sums.each)
    (each_ranked (Has rows) log each (each_implied (IsRow log blocks) (Has rows) (found log blocks rows sums) each (each_is_row log blocks)))

pub rows_sum_up : (log : List ℕ) (blocks : List Leak) → AreSums log blocks (rows_of log blocks)
unfolding rows_of
rows_sum_up log blocks =
    let each : List CallerRow = map (row_of log blocks) (first_of_each log blocks) in
    record {
      each = each_ranked (SumsUp log blocks) log each (each_implied (IsRow log blocks) (SumsUp log blocks) (sums_up log blocks) each (each_is_row log blocks));
      every = each_implied (Has blocks) (HasRow log (ranked log each))
          (λ b has. let row = row_of_each log blocks b has in
          has_any (λ r. bytes_eq (text_at log r.caller) (text_at log b.block.caller)) (ranked log each) row.0 (Has-ranked log each row.0 (Has-row log blocks row.0 row.1))
          ((bytes_eq-Decides (text_at log row.0.caller) (text_at log b.block.caller)).1 row.2))
          blocks (each_itself blocks);
      order = sorted_ranked log each (all_differ log blocks blocks);
    }
