-- Rows of leaked blocks whose keys ascend, as the entries of a map.
use Rattle.std.proofs.Common.{◌≡◌, ℕ, ◌-◌, ◌^◌, ◌<◌, Bool, true, false, cond, List, [], ◌∷◌, ◌++◌, length, get_or, set, map, take, Option, None, Some, IfSome, refl, sym, ap, subst, ◌∙◌, arith}
use Rattle.std.specs.List.{AllByRecursion}
use Rattle.std.specs.List.Sorted.{IsStrictlySortedBy}
use Rattle.std.specs.Map.{keys_of, values_of}
use Rattle.std.specs.Cmp.{IsEquivalence}
use Rattle.std.specs.Ordering.{is_eq, eq_by_cmp}
use Rattle.std.specs.declared.cmp.Ordering.TheVariants.{Less, Equal}
use Rattle.std.proofs.lemmas.Cmp.{eq_by_cmp_equiv}
use Rattle.std.proofs.lemmas.List.{map_push}
use Rattle.leak_lemmas.proofs.Members.{each_push as all_push}
use Rattle.leak_blocks.specs.declared.block.Block.{Block}
use Rattle.leak_report.specs.declared.totals.CallerRow.{CallerRow}
use Rattle.leak_report.specs.Places.{place_of}
use Rattle.leak_report.specs.Totals.{Leak, bytes_in, text_at}
use Rattle.leak_report.specs.Groups.{Key, HasRoom, with_leak, order_of_keys, row_with, found_in, AreEntries}
use Rattle.leak_report.specs.declared.grouping.PlacedLeak.{PlacedLeak}
use Rattle.leak_report.specs.Listing.{AreByPlace, AreByText, leak_of, order_after}
use Rattle.leak_report.proofs.Joins.{AreEntries-push, row_at}
use Rattle.leak_report.proofs.Listed.{sorted_fits, sorted_none}
use Rattle.leak_report.proofs.Orders.{order_of_keys_total}

abbrev KeyedRow : Type 0
KeyedRow = Key × CallerRow

-- the keys are below the key
abbrev AreBelow : Key → List Key → Type 0
AreBelow key ks = AllByRecursion (λ k. order_of_keys k key ≡ Less) ks

same_keys : IsEquivalence (eq_by_cmp order_of_keys)
same_keys = eq_by_cmp_equiv order_of_keys_total

abbrev found : Key → List KeyedRow → Option CallerRow
found k es = found_in es k

-- ---- the end of a list

long : {X : Type 0} (xs : List X) (x : X) → 0 < length (xs ++ x ∷ [])
long [] x = omega arith
long (y ∷ xs) x = omega arith

last_place : {X : Type 0} (xs : List X) (x : X) → length (xs ++ x ∷ []) - 1 ≡ length xs
last_place [] x = refl
last_place (y ∷ xs) x = omega (arith, last_place xs x, long xs x)

at_end : {X : Type 0} (xs : List X) (x d : X) → get_or (xs ++ x ∷ []) (length (xs ++ x ∷ []) - 1) d ≡ x
at_end {X} xs x d = ap (λ (n : ℕ). get_or (xs ++ x ∷ []) n d) (last_place xs x) ∙ go xs
  where
    go : (ys : List X) → get_or (ys ++ x ∷ []) (length ys) d ≡ x
    go [] = refl
    go (y ∷ ys) = go ys

set_end : {X : Type 0} (xs : List X) (x y : X) → set (xs ++ x ∷ []) (length (xs ++ x ∷ []) - 1) y ≡ xs ++ y ∷ []
set_end {X} xs x y = ap (λ (n : ℕ). set (xs ++ x ∷ []) n y) (last_place xs x) ∙ go xs
  where
    go : (ys : List X) → set (ys ++ x ∷ []) (length ys) y ≡ ys ++ y ∷ []
    go [] = refl
    go (z ∷ ys) = ap (λ zs. z ∷ zs) (go ys)

-- what is written twice has what was written last
pub cond_twice : {X : Type 0} (t : Bool) (x y z : X) → cond t x (cond t y z) ≡ cond t x z
cond_twice true x y z = refl
cond_twice false x y z = refl

-- ---- an entry at the end

found_push : (es : List KeyedRow) (key : Key) (row : CallerRow) (k : Key) → AreBelow key (keys_of es)
    → found k (es ++ (key, row) ∷ []) ≡ cond (is_eq (order_of_keys key k)) (Some row) (found k es)
found_push [] key row k all = ap (λ t. cond t (Some row) None) (same_keys.symm k key)
found_push (e ∷ es) key row k all = go (is_eq (order_of_keys k e.0)) refl (found_push es key row k all.1)
  where
    go : (t : Bool) → is_eq (order_of_keys k e.0) ≡ t → found k (es ++ (key, row) ∷ []) ≡ cond (is_eq (order_of_keys key k)) (Some row) (found k es)
        → cond t (Some e.1) (found k (es ++ (key, row) ∷ [])) ≡ cond (is_eq (order_of_keys key k)) (Some row) (cond t (Some e.1) (found k es))
    go true is rest =
        let other : is_eq (order_of_keys key k) ≡ false = same_keys.symm key k ∙ same_keys.congr k e.0 key is ∙ ap is_eq all.0 in
        sym (ap (λ t. cond t (Some row) (Some e.1)) other)
    go false is rest = rest

not_found : (es : List KeyedRow) (key : Key) → AreBelow key (keys_of es) → found key es ≡ None
not_found [] key all = refl
not_found (e ∷ es) key all =
    let other : is_eq (order_of_keys key e.0) ≡ false = same_keys.symm key e.0 ∙ ap is_eq all.0 in
    ap (λ t. cond t (Some e.1) (found key es)) other ∙ not_found es key all.1

ascend_push : (ks : List Key) (key : Key) → IsStrictlySortedBy order_of_keys ks → AreBelow key ks → IsStrictlySortedBy order_of_keys (ks ++ key ∷ [])
unfolding IsStrictlySortedBy
ascend_push [] key up all = (tt, tt)
ascend_push (k ∷ ks) key up all = (all_push (λ y. order_of_keys k y ≡ Less) ks key up.0 all.0, ascend_push ks key up.1 all.1)

below_push : (ks : List Key) (l key : Key) → AreBelow l ks → order_of_keys l key ≡ Less → AreBelow key (ks ++ l ∷ [])
below_push [] l key all less = (less, tt)
below_push (k ∷ ks) l key all less = (order_of_keys_total.trans k l key all.0 less, below_push ks l key all.1 less)

-- ---- rows so far

-- the last row has the key, and those before it have lesser keys
pub record HasLast (prefix log : List ℕ) (leaks : List Leak) (rows : List CallerRow) (key : Key) : Type 0 where
  pub front : List (Key × CallerRow)
  pub row : CallerRow
  pub listed : rows ≡ values_of front ++ row ∷ []
  pub ascend : IsStrictlySortedBy order_of_keys (keys_of front)
  pub below : AllByRecursion (λ k. order_of_keys k key ≡ Less) (keys_of front)
  pub place : key.0 ≡ place_of prefix key.1.now
  pub are : AreEntries prefix log leaks (front ++ (key, row) ∷ [])

-- the rows of the leaked blocks so far, whose keys ascend up to the last
abbrev pub AreAscending : List ℕ → List ℕ → List Leak → List CallerRow → Option Key → Type 0
AreAscending prefix log leaks rows None = (rows ≡ []) × (leaks ≡ [])
AreAscending prefix log leaks rows (Some key) = HasLast prefix log leaks rows key

module _ (prefix log : List ℕ) (leaks : List Leak) (rows : List CallerRow) (key : Key) (l : Leak) (place : key.0 ≡ place_of prefix key.1.now) (text : key.1.now ≡ text_at log l.block.caller) where
  pushed : (es : List KeyedRow) → AreBelow key (keys_of es) → AreEntries prefix log leaks (es)
      → AreEntries prefix log (leaks ++ l ∷ []) ((es ++ (key, with_leak None l) ∷ []))
  pushed es below are =
      AreEntries-push prefix log leaks l key (es) ((es ++ (key, with_leak None l) ∷ [])) are place text (λ k.
      found_push es key (with_leak None l) k below
      ∙ ap (λ o. cond (is_eq (order_of_keys key k)) (Some (with_leak o l)) (found k es)) (sym (not_found es key below)))

  -- a greater key
  pub ascending_more : (last : Option Key) → AreAscending prefix log leaks rows last → order_after last key ≡ Less
      → AreAscending prefix log (leaks ++ l ∷ []) (rows ++ with_leak None l ∷ []) (Some key)
  unfolding IsStrictlySortedBy
  ascending_more None are less = record {
    front = [];
    row = with_leak None l;
    listed = ap (λ (rs : List CallerRow). rs ++ with_leak None l ∷ []) are.0;
    ascend = tt;
    below = tt;
    place = place;
    are = pushed [] tt (subst (λ (ls : List Leak). AreEntries prefix log ls ([])) (sym are.1) (sorted_none prefix log ([]) refl));
  }
  ascending_more (Some before) has less =
      let es : List KeyedRow = has.front ++ (before, has.row) ∷ [] in
      let keys : keys_of es ≡ keys_of has.front ++ before ∷ [] = map_push (λ (e : KeyedRow). e.0) has.front (before, has.row) in
      let rest : values_of es ≡ values_of has.front ++ has.row ∷ [] = map_push (λ (e : KeyedRow). e.1) has.front (before, has.row) in
      let below : AreBelow key (keys_of es) = subst (AreBelow key) (sym keys) (below_push (keys_of has.front) before key has.below less) in
      record {
        front = es;
        row = with_leak None l;
        listed = ap (λ (rs : List CallerRow). rs ++ with_leak None l ∷ []) (has.listed ∙ sym rest);
        ascend = subst (IsStrictlySortedBy order_of_keys) (sym keys) (ascend_push (keys_of has.front) before has.ascend has.below);
        below = below;
        place = place;
        are = pushed es below has.are;
      }

  -- the last key
  pub ascending_same : (last : Option Key) (d : CallerRow) → AreAscending prefix log leaks rows last → order_after last key ≡ Equal
      → AreAscending prefix log (leaks ++ l ∷ []) (set rows (length rows - 1) (with_leak (Some (get_or rows (length rows - 1) d)) l)) last
  ascending_same None d are same = absurd (cc)
  ascending_same (Some before) d has same =
      let at : get_or rows (length rows - 1) d ≡ has.row = ap (λ (rs : List CallerRow). get_or rs (length rs - 1) d) has.listed ∙ at_end (values_of has.front) has.row d in
      let more : CallerRow = with_leak (Some has.row) l in
      record {
        front = has.front;
        row = more;
        listed =
            ap (λ (r : CallerRow). set rows (length rows - 1) (with_leak (Some r) l)) at
            ∙ ap (λ (rs : List CallerRow). set rs (length rs - 1) more) has.listed ∙ set_end (values_of has.front) has.row more;
        ascend = has.ascend;
        below = has.below;
        place = has.place;
        are =
            AreEntries-push prefix log leaks l key ((has.front ++ (before, has.row) ∷ [])) ((has.front ++ (before, more) ∷ [])) has.are place text (λ k.
            let keys : is_eq (order_of_keys key k) ≡ is_eq (order_of_keys before k) = same_keys.congr key before k (same_keys.symm key before ∙ ap is_eq same) in
            let old : found key (has.front ++ (before, has.row) ∷ []) ≡ Some has.row = found_push has.front before has.row key has.below ∙ ap (λ o. cond (is_eq o) (Some has.row) (found key has.front)) same in
            found_push has.front before more k has.below
            ∙ sym (cond_twice (is_eq (order_of_keys before k)) (Some more) (Some has.row) (found k has.front))
            ∙ ap (λ o. cond (is_eq (order_of_keys before k)) (Some more) o) (sym (found_push has.front before has.row k has.below))
            ∙ ap (λ t. cond t (Some more) (found k (has.front ++ (before, has.row) ∷ []))) (sym keys)
            ∙ ap (λ o. cond (is_eq (order_of_keys key k)) (Some (with_leak o l)) (found k (has.front ++ (before, has.row) ∷ []))) (sym old));
      }

-- there is a last row, and it has room for one more block
pub last_has_room : (prefix log : List ℕ) (leaks : List Leak) (rows : List CallerRow) (key : Key) (last : Option Key) (b : Block) (d : CallerRow) → AreAscending prefix log leaks rows last
    → order_after last key ≡ Equal → ((text : List ℕ) (r : Option CallerRow) → r ≡ row_with log leaks text → IfSome r (λ row. HasRoom row b))
    → (0 < length rows) × HasRoom (get_or rows (length rows - 1) d) b
last_has_room prefix log leaks rows key None b d are same room = absurd (cc)
last_has_room prefix log leaks rows key (Some before) b d has same room =
    let at : get_or rows (length rows - 1) d ≡ has.row = ap (λ (rs : List CallerRow). get_or rs (length rs - 1) d) has.listed ∙ at_end (values_of has.front) has.row d in
    let es : List KeyedRow = has.front ++ (before, has.row) ∷ [] in
    let here : found before es ≡ Some has.row =
    found_push has.front before has.row before has.below ∙ ap (λ t. cond t (Some has.row) (found before has.front)) (same_keys.refl before) in (
      omega (arith, ap (λ (rs : List CallerRow). length rs) has.listed, long (values_of has.front) has.row),
      subst (λ (r : CallerRow). HasRoom r b) (sym at)
          (subst (λ (o : Option CallerRow). IfSome o (λ row. HasRoom row b)) here
          (room before.1.now (found before es) (row_at prefix log leaks (es) has.are before has.place))),
    )

-- there is one before the leaked block at i, if that has the last key
pub last_is_ready : (prefix log : List ℕ) (leaks : List Leak) (sorted : List PlacedLeak) (i : ℕ) (p : PlacedLeak) (rows : List CallerRow) (key : Key) (last : Option Key) (d : CallerRow)
    → AreByPlace prefix log leaks sorted → i < length sorted → length leaks < 2 ^ 64 → bytes_in leaks < 2 ^ 64
    → AreAscending prefix log (map (leak_of leaks) (take i sorted)) rows last → order_after last key ≡ Equal
    → (0 < length rows) × HasRoom (get_or rows (length rows - 1) d) (leak_of leaks (get_or sorted i p)).block
last_is_ready prefix log leaks sorted i p rows key last d by h few sum are same =
    last_has_room prefix log (map (leak_of leaks) (take i sorted)) rows key last (leak_of leaks (get_or sorted i p)).block d are same
    (λ text r is. sorted_fits prefix log leaks sorted i p text r by is h few sum)

-- all of them
pub ascending_all : (prefix log : List ℕ) (leaks : List Leak) (rows : List CallerRow) (last : Option Key) → AreAscending prefix log leaks rows last → AreByText prefix log leaks rows
unfolding IsStrictlySortedBy
ascending_all prefix log leaks rows None are = record {
  entries = [];
  ordered = tt;
  are = subst (λ (ls : List Leak). AreEntries prefix log ls ([])) (sym are.1) (sorted_none prefix log ([]) refl);
  listed = sym are.0;
}
ascending_all prefix log leaks rows (Some key) has = record {
  entries = (has.front ++ (key, has.row) ∷ []);
  ordered = subst (IsStrictlySortedBy order_of_keys) (sym (map_push (λ (e : KeyedRow). e.0) has.front (key, has.row))) (ascend_push (keys_of has.front) key has.ascend has.below);
  are = has.are;
  listed = map_push (λ (e : KeyedRow). e.1) has.front (key, has.row) ∙ sym has.listed;
}
