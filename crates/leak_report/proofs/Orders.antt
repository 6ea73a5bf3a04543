-- The rows that a map holds, sorted, are the rows of the blocks.
use Rattle.std.proofs.Common.{◌≡◌, ℕ, ◌+◌, Bool, true, false, not, ◌&&◌, cond, List, [], ◌∷◌, length, map, filter, get_or, ◌<◌, Option, None, Some, inl, inr, refl, sym, ap, subst, ◌∙◌, arith}
use Rattle.std.specs.Prelude.{nat_eq}
use Rattle.std.proofs.lemmas.Bool.{eqb-true}
use Rattle.std.specs.List.{AllByRecursion}
use Rattle.std.specs.List.Sorted.{IsStrictlySortedBy, IsPermutation, IsSortedByKey, IsStableByKey, IsSortedBy, ties}
use Rattle.std.specs.Cmp.{IsTotalOrder}
use Rattle.std.specs.Cmp.Lexicographic.{slice_cmp}
use Rattle.std.specs.declared.cmp.Ordering.{Ordering}
use Rattle.std.specs.declared.cmp.Ordering.TheVariants.{Less, Equal, Greater}
use Rattle.std.specs.Ordering.{nat_cmp, is_lt, eq_by_cmp, is_eq, ordering_reverse, ordering_then}
use Rattle.std.specs.Map.{lookup, keys_of, values_of}
use Rattle.std.proofs.lemmas.Cmp.{on_total, then_total, back_total, ranked as compared, nat_cmp_total, nat_list_cmp_total, eq_by_cmp_equiv}
use Rattle.std.proofs.lemmas.List.Sorted.{ranks_by, ties_stay_sorted}
use Rattle.std.proofs.lemmas.Map.Keys.{IsDistinct-from_sorted, IsDistinct-IsPermutation, apart_from_distinct, Less-from_sorted, sorted_from_all_adjacent}
use Rattle.leak_blocks.specs.declared.block.Block.{Block}
use Rattle.leak_report.specs.declared.totals.CallerRow.{CallerRow}
use Rattle.leak_report.specs.Totals.{Leak, AreLeaksIn, IsIn, bytes_in, heads_in, text_at, with_text, has_same_text, first_of_each, row_of, rank, ranked, rows_of, leaks_in}
use Rattle.leak_report.specs.Places.{place_of}
use Rattle.leak_report.specs.Groups.{Key, row_from, row_with, order_of_keys, found_in, AreEntries}
use Rattle.leak_report.specs.Listing.{AreByText}
use Rattle.leak_report.proofs.Joins.{row_at}
use Rattle.leak_report.proofs.PlaceLemmas.{place_tells, bytes_of_text}
use Rattle.leak_lemmas.proofs.Members.{Has, each_implied, each_mapped, each_filtered, each_moved, Has-moved, same_elements}
use Rattle.leak_lemmas.proofs.Bytes.{AreBytes}
use Rattle.leak_report.proofs.Ranks.{rank_total, each_ranked, Has-ranked, sorted_ranked}
use Rattle.leak_report.proofs.Firsts.{IsRow, each_is_row, with_text-head, Has-row, all_differ}

-- rows by the ascending bytes of their texts
abbrev by_text : List ℕ → CallerRow → CallerRow → Ordering
by_text log r s = slice_cmp nat_cmp (text_at log r.caller) (text_at log s.caller)

by_text_total : (log : List ℕ) → IsTotalOrder (by_text log)
by_text_total log = on_total (λ (r : CallerRow). text_at log r.caller) nat_list_cmp_total

pub order_of_keys_total : IsTotalOrder order_of_keys
order_of_keys_total = then_total (on_total (λ (k : Key). k.0) nat_cmp_total) (on_total (λ (k : Key). k.1.now) nat_list_cmp_total)

-- keys with the places of their texts are in the order of the texts
key_tells : (prefix : List ℕ) (x y : Key) → AreBytes x.1.now → AreBytes y.1.now → x.0 ≡ place_of prefix x.1.now → y.0 ≡ place_of prefix y.1.now
    → order_of_keys x y ≡ Less → slice_cmp nat_cmp x.1.now y.1.now ≡ Less
key_tells prefix x y bytes_x bytes_y at_x at_y less = go (nat_cmp x.0 y.0) refl less
  where
    go : (o : Ordering) → nat_cmp x.0 y.0 ≡ o → ordering_then o (slice_cmp nat_cmp x.1.now y.1.now) ≡ Less → slice_cmp nat_cmp x.1.now y.1.now ≡ Less
    go Less e h =
        let up : x.0 < y.0 = compared x.0 y.0 Less (sym e) in
        place_tells prefix x.1.now y.1.now bytes_x bytes_y (omega (arith, up, at_x, at_y))
    go Equal e h = h
    go Greater e h = cc

-- a row of a text has it
row_with-text : (log : List ℕ) (blocks : List Leak) (text : List ℕ) (row : CallerRow) → row_with log blocks text ≡ Some row → text_at log row.caller ≡ text
row_with-text log blocks text row is = go (with_text log text blocks) refl is
  where
    go : (with : List Leak) → with_text log text blocks ≡ with → row_from with ≡ Some row → text_at log row.caller ≡ text
    go [] e r = cc
    go (b ∷ rest) e r =
        let same : record { blocks = length (b ∷ rest); bytes = bytes_in (b ∷ rest); heads = heads_in (b ∷ rest); caller = b.block.caller } ≡ row = cc in
        sym (ap (λ (x : CallerRow). text_at log x.caller) same) ∙ with_text-head log text blocks b rest e

-- a key with the place of its text, which is that of its row
abbrev IsEntry : List ℕ → List ℕ → Key × CallerRow → Type 0
IsEntry prefix log e = (e.0.0 ≡ place_of prefix e.0.1.now) × (text_at log e.1.caller ≡ e.0.1.now)

-- what is found is of such a key
found_at : (n m : ℕ) (o : Option CallerRow) (row : CallerRow) → cond (nat_eq n m) o None ≡ Some row → (n ≡ m) × (o ≡ Some row)
found_at n m o row e = go (nat_eq n m) refl e
  where
    go : (t : Bool) → nat_eq n m ≡ t → cond t o None ≡ Some row → (n ≡ m) × (o ≡ Some row)
    go true is e = (eqb-true n m is, e)
    go false is e = cc

-- each entry is found by its key, if keys ascend
each_here : (es : List (Key × CallerRow)) → IsStrictlySortedBy order_of_keys (keys_of es) → AllByRecursion (λ e. found_in es e.0 ≡ Some e.1) es
unfolding IsStrictlySortedBy
each_here [] up = tt
each_here (e ∷ es) up =
    (ap (λ t. cond t (Some e.1) (found_in es e.0)) ((eq_by_cmp_equiv order_of_keys_total).refl e.0), later es up.0 (each_here es up.1))
  where
    later : (fs : List (Key × CallerRow)) → AllByRecursion (λ k. order_of_keys e.0 k ≡ Less) (keys_of fs) → AllByRecursion (λ f. found_in es f.0 ≡ Some f.1) fs
        → AllByRecursion (λ f. found_in (e ∷ es) f.0 ≡ Some f.1) fs
    later [] up all = tt
    later (f ∷ fs) up all = (
      ap (λ t. cond t (Some e.1) (found_in es f.0)) ((eq_by_cmp_equiv order_of_keys_total).symm f.0 e.0 ∙ ap is_eq up.0) ∙ all.0,
      later fs up.1 all.1,
    )

module _ (prefix log : List ℕ) (blocks : List Leak) (es : List (Key × CallerRow)) (ordered : IsStrictlySortedBy order_of_keys (keys_of es)) (are : AreEntries prefix log blocks es) where
  each_found : AllByRecursion (λ e. (e.0.0 ≡ place_of prefix e.0.1.now) × (row_with log blocks e.0.1.now ≡ Some e.1)) es
  each_found = each_implied (λ e. found_in es e.0 ≡ Some e.1) (λ e. (e.0.0 ≡ place_of prefix e.0.1.now) × (row_with log blocks e.0.1.now ≡ Some e.1))
      (λ e h. found_at e.0.0 (place_of prefix e.0.1.now) (row_with log blocks e.0.1.now) e.1 (sym (are e.0) ∙ h)) es (each_here es ordered)

  each_value : AllByRecursion (IsRow log blocks) (values_of es)
  each_value = each_mapped (λ e. e.1) (IsRow log blocks) es
      (each_implied (λ e. (e.0.0 ≡ place_of prefix e.0.1.now) × (row_with log blocks e.0.1.now ≡ Some e.1)) (λ e. IsRow log blocks e.1)
      (λ e h. ap (row_with log blocks) (row_with-text log blocks e.0.1.now e.1 h.1) ∙ h.1) es each_found)

  each_entry : AllByRecursion (IsEntry prefix log) es
  each_entry = each_implied (λ e. (e.0.0 ≡ place_of prefix e.0.1.now) × (row_with log blocks e.0.1.now ≡ Some e.1)) (IsEntry prefix log)
      (λ e h. (h.0, row_with-text log blocks e.0.1.now e.1 h.1)) es each_found

lookup-Has : {K X : Type 0} (test : K → Bool) (es : List (K × X)) (v : X) → lookup test es ≡ Some v → Has (values_of es) v
lookup-Has test [] v e = cc
lookup-Has {K} {X} test (f ∷ es) v e = go (test f.0) e (lookup-Has test es v)
  where
    go : (t : Bool) → cond t (Some f.1) (lookup test es) ≡ Some v → (lookup test es ≡ Some v → Has (values_of es) v) → Has (values_of (f ∷ es)) v
    go true e later = inl (cc)
    go false e later = inr (later e)

entry_bytes : (prefix log : List ℕ) (e : Key × CallerRow) → AreBytes log → IsEntry prefix log e → AreBytes e.0.1.now
entry_bytes prefix log e bytes is = subst AreBytes is.1 (bytes_of_text log e.1.caller bytes)

above : (prefix log : List ℕ) → AreBytes log → (e : Key × CallerRow) (es : List (Key × CallerRow)) → IsEntry prefix log e
    → AllByRecursion (IsEntry prefix log) es → AllByRecursion (λ k. order_of_keys e.0 k ≡ Less) (keys_of es)
    → AllByRecursion (λ s. by_text log e.1 s ≡ Less) (values_of es)
above prefix log bytes e [] is all up = tt
above prefix log bytes e (f ∷ es) is all up = (
  ap (λ t. slice_cmp nat_cmp t (text_at log f.1.caller)) is.1 ∙ ap (λ t. slice_cmp nat_cmp e.0.1.now t) all.0.1
      ∙ key_tells prefix e.0 f.0 (entry_bytes prefix log e bytes is) (entry_bytes prefix log f bytes all.0) is.0 all.0.0 up.0,
  above prefix log bytes e es is all.1 up.1,
)

values_ascend : (prefix log : List ℕ) → AreBytes log → (es : List (Key × CallerRow)) → AllByRecursion (IsEntry prefix log) es
    → IsStrictlySortedBy order_of_keys (keys_of es) → IsStrictlySortedBy (by_text log) (values_of es)
unfolding IsStrictlySortedBy
values_ascend prefix log bytes [] all up = tt
values_ascend prefix log bytes (e ∷ es) all up = (above prefix log bytes e es all.0 all.1 up.0, values_ascend prefix log bytes es all.1 up.1)

-- neighbors after the sort
neighbors : (log : List ℕ) (a b : CallerRow) → is_lt (nat_cmp a.bytes b.bytes) ≡ false → eq_by_cmp (by_text log) a b ≡ false
    → (ties (λ (x y : CallerRow). is_lt (nat_cmp y.bytes x.bytes)) a b ≡ true → is_lt (by_text log b a) ≡ false) → rank log a b ≡ Less
neighbors log a b falls apart tie =
    go (nat_cmp b.bytes a.bytes) refl (nat_cmp_total.antisymm a.bytes b.bytes) falls
    (λ same. tie (ap (λ t. not t && not (is_lt (nat_cmp a.bytes b.bytes))) (ap is_lt same) ∙ ap not falls))
  where
    text : (p : Ordering) → by_text log a b ≡ ordering_reverse p → is_lt p ≡ false → is_eq (by_text log a b) ≡ false → by_text log a b ≡ Less
    text Less turned behind other = cc
    text Equal turned behind other = let tied : is_eq (by_text log a b) ≡ true = ap is_eq turned in absurd (cc)
    text Greater turned behind other = turned

    go : (o : Ordering) → nat_cmp b.bytes a.bytes ≡ o → nat_cmp a.bytes b.bytes ≡ ordering_reverse (nat_cmp b.bytes a.bytes) → is_lt (nat_cmp a.bytes b.bytes) ≡ false
        → (nat_cmp b.bytes a.bytes ≡ Equal → is_lt (by_text log b a) ≡ false) → ordering_then (nat_cmp b.bytes a.bytes) (by_text log a b) ≡ Less
    go Less e turned falls tie = ap (λ o. ordering_then o (by_text log a b)) e
    go Equal e turned falls tie = ap (λ o. ordering_then o (by_text log a b)) e ∙ text (by_text log b a) ((by_text_total log).antisymm a b) (tie e) apart
    go Greater e turned falls tie =
        let less : is_lt (nat_cmp a.bytes b.bytes) ≡ true = ap is_lt (turned ∙ ap ordering_reverse e) in
        absurd (cc)

sorted_values : (log : List ℕ) (vs rows : List CallerRow) → IsStrictlySortedBy (by_text log) vs → IsPermutation vs rows
    → IsSortedByKey (λ (r : CallerRow). r.bytes) (λ x y. nat_cmp y x) rows → IsStableByKey (λ (r : CallerRow). r.bytes) (λ x y. nat_cmp y x) vs rows
    → IsStrictlySortedBy (rank log) rows
sorted_values log vs rows up moved falls stable =
    let nothing : CallerRow = record { blocks = 0; bytes = 0; heads = 0; caller = (0, 0) } in
    let sorted : IsSortedBy (λ x y. is_lt (by_text log x y)) vs = λ k d l h.
    ap is_lt ((by_text_total log).antisymm (get_or vs (k + 1) d) (get_or vs k d)) ∙ ap (λ o. is_lt (ordering_reverse o)) (Less-from_sorted (by_text log) vs k (k + 1) d up (omega arith) h) in
    sorted_from_all_adjacent (rank_total log) rows nothing (λ k h.
    neighbors log (get_or rows k nothing) (get_or rows (k + 1) nothing) (falls k nothing (omega arith) h)
    (apart_from_distinct (eq_by_cmp (by_text log)) rows k (k + 1) nothing
    (IsDistinct-IsPermutation (eq_by_cmp (by_text log)) (eq_by_cmp_equiv (by_text_total log)).symm vs rows moved (IsDistinct-from_sorted (by_text log) vs up))
    (omega arith) h)
    (λ t. ties_stay_sorted (λ x y. is_lt (by_text log x y)) (λ (x y : CallerRow). is_lt (nat_cmp y.bytes x.bytes))
    (ranks_by nat_list_cmp_total (λ (r : CallerRow). text_at log r.caller)) (ranks_by (back_total nat_cmp_total) (λ (r : CallerRow). r.bytes))
    vs rows sorted stable k nothing h t))

pub rows_are : (prefix log : List ℕ) (blocks : List Leak) (given rows : List CallerRow) → AreBytes log → AreByText prefix log blocks given → IsPermutation given rows
    → IsSortedByKey (λ (r : CallerRow). r.bytes) (λ x y. nat_cmp y x) rows → IsStableByKey (λ (r : CallerRow). r.bytes) (λ x y. nat_cmp y x) given rows
    → rows ≡ rows_of log blocks
unfolding rows_of
rows_are prefix log blocks given rows bytes by moved falls stable =
    let each : List CallerRow = map (row_of log blocks) (first_of_each log blocks) in
    let es : List (Key × CallerRow) = by.entries in
    let up : IsStrictlySortedBy (by_text log) given = subst (IsStrictlySortedBy (by_text log)) by.listed (values_ascend prefix log bytes es (each_entry prefix log blocks es by.ordered by.are) by.ordered) in
    let have : AllByRecursion (IsRow log blocks) given = subst (AllByRecursion (IsRow log blocks)) by.listed (each_value prefix log blocks es by.ordered by.are) in
    same_elements (rank log) (rank_total log) rows (ranked log each)
    (sorted_values log given rows up moved falls stable)
    (sorted_ranked log each (all_differ log blocks blocks))
    (each_moved (Has (ranked log each)) given rows moved
    (each_implied (IsRow log blocks) (Has (ranked log each)) (λ r is. Has-ranked log each r (Has-row log blocks r is)) given have))
    (each_ranked (Has rows) log each
    (each_implied (IsRow log blocks) (Has rows)
    (λ r is. let key : Key = (place_of prefix (text_at log r.caller), record { ref_ptr = (0, 0); now = text_at log r.caller }) in
    Has-moved given rows r moved (subst (λ (vs : List CallerRow). Has vs r) by.listed (lookup-Has (λ k. is_eq (order_of_keys key k)) es r (row_at prefix log blocks es by.are key refl ∙ is)))) each (each_is_row log blocks)))

-- the rows name callers of the blocks
first_of_each-in : (P : Leak → Type 0) (log : List ℕ) (leaks : List Leak) → AllByRecursion P leaks → AllByRecursion P (first_of_each log leaks)
first_of_each-in P log [] all = tt
first_of_each-in P log (b ∷ leaks) all = (
  all.0,
  each_implied (λ c. P c × (not (has_same_text log b c) ≡ true)) P (λ c h. h.0) (filter (λ c. not (has_same_text log b c)) (first_of_each log leaks))
      (each_filtered (λ c. not (has_same_text log b c)) P (first_of_each log leaks) (first_of_each-in P log leaks all.1)),
)

pub each_leak : (P : Block → Type 0) (set heads : List Bool) (blocks : List Block) → AllByRecursion P blocks → AllByRecursion (λ l. P l.block) (leaks_in set heads blocks)
each_leak P [] heads blocks all = tt
each_leak P (s ∷ set) [] blocks all = tt
each_leak P (s ∷ set) (h ∷ heads) [] all = tt
each_leak P (true ∷ set) (h ∷ heads) (b ∷ blocks) all = each_leak P set heads blocks all.1
each_leak P (false ∷ set) (h ∷ heads) (b ∷ blocks) all = (all.0, each_leak P set heads blocks all.1)

pub rows_of-in : (log : List ℕ) (leaks : List Leak) → AreLeaksIn log leaks → AllByRecursion (λ r. IsIn log r.caller) (rows_of log leaks)
unfolding rows_of
rows_of-in log leaks all =
    each_ranked (λ r. IsIn log r.caller) log (map (row_of log leaks) (first_of_each log leaks))
    (each_mapped (row_of log leaks) (λ r. IsIn log r.caller) (first_of_each log leaks)
    (first_of_each-in (λ l. IsIn log l.block.caller) log leaks all))
