-- Leaked blocks by the places of their callers' texts.
use Rattle.std.proofs.Common.{◌≡◌, ℕ, zero, suc, ◌+◌, ◌^◌, ◌<◌, ◌≤◌, Bool, true, false, not, ◌&&◌, cond, List, [], ◌∷◌, ◌++◌, length, take, get_or, map, filter, bytes_eq, Option, None, IfSome, refl, sym, ap, subst, ◌∙◌, arith}
use Rattle.std.specs.List.{All, AllByRecursion, sum_by}
use Rattle.std.specs.Prelude.{nat_eq}
use Rattle.std.specs.Ordering.{nat_cmp, is_lt}
use Rattle.std.proofs.lemmas.Cmp.{tied_itself, nat_cmp_total}
use Rattle.std.proofs.lemmas.List.{map_push, take_all, take_more, take-map, length-map, length-take-le}
use Rattle.std.proofs.lemmas.List.Sums.{sum_by_push, sum_by-take-le, sum_by-cons}
use Rattle.std.proofs.lemmas.List.Filters.{length-filter_both, sum_by-filter_both}
use Rattle.std.proofs.lemmas.List.Sorted.{All-permutation, sum_by-IsPermutation, length_permutation}
use Rattle.std.proofs.lemmas.Slice.Eq.{bytes_eq-Decides}
use Rattle.leak_lemmas.proofs.Members.{each_push as all_push, All-from_each as all_at}
use Rattle.leak_report.specs.declared.totals.CallerRow.{CallerRow}
use Rattle.leak_report.specs.declared.grouping.PlacedLeak.{PlacedLeak}
use Rattle.leak_report.specs.Places.{place_of}
use Rattle.leak_report.specs.Totals.{Leak, bytes_in, text_at, with_text}
use Rattle.leak_report.specs.Groups.{Key, HasRoom, AreEntries, row_from, row_with}
use Rattle.leak_report.specs.Listing.{IsPlaced, ArePlaced, AreByPlace, leak_of}
use Rattle.leak_report.proofs.Joins.{row_from-fits}

-- ---- listing

-- those among the first leaked blocks
pub record AreFirst (prefix log : List ℕ) (leaks : List Leak) (i : ℕ) (placed : List PlacedLeak) : Type 0 where
  pub are : map (leak_of leaks) placed ≡ take i leaks
  pub each : AllByRecursion (IsPlaced prefix log leaks) placed

pub first_none : (prefix log : List ℕ) (leaks : List Leak) → AreFirst prefix log leaks 0 []
first_none prefix log leaks = record { are = refl; each = tt }

pub first_more : (prefix log : List ℕ) (leaks : List Leak) (i place : ℕ) (placed : List PlacedLeak) → AreFirst prefix log leaks i placed → i < length leaks
    → place ≡ place_of prefix (text_at log (leak_of leaks (record { place = place; number = i })).block.caller)
    → AreFirst prefix log leaks (i + 1) (placed ++ record { place = place; number = i } ∷ [])
first_more prefix log leaks i place placed first h is =
    let p : PlacedLeak = record { place = place; number = i } in
    record {
      are = map_push (leak_of leaks) placed p
          ∙ ap (λ (ls : List Leak). ls ++ leak_of leaks p ∷ []) first.are
          ∙ sym (take_more leaks i (leak_of leaks p) h ∙ ap (λ (l : Leak). take i leaks ++ l ∷ []) (get_same leaks i _ _ h));
      each = all_push (IsPlaced prefix log leaks) placed p first.each (record { inside = h; place = is });
    }
  where
    get_same : {X : Type 0} (xs : List X) (i : ℕ) (d e : X) → i < length xs → get_or xs i d ≡ get_or xs i e
    get_same [] i d e h = absurd (omega (arith, h))
    get_same (x ∷ xs) zero d e h = refl
    get_same (x ∷ xs) (suc i) d e h = get_same xs i d e (omega (arith, h))

pub first_all : (prefix log : List ℕ) (leaks : List Leak) (i : ℕ) (placed : List PlacedLeak) → AreFirst prefix log leaks i placed → length leaks ≤ i
    → ArePlaced prefix log leaks placed
first_all prefix log leaks i placed first h = record { are = first.are ∙ take_all i leaks h; each = first.each }

-- ---- sorting

pub each_sorted : (prefix log : List ℕ) (leaks : List Leak) (sorted : List PlacedLeak) → AreByPlace prefix log leaks sorted
    → All (IsPlaced prefix log leaks) sorted
each_sorted prefix log leaks sorted by =
    All-permutation (IsPlaced prefix log leaks) by.listed sorted by.permutation (all_at (IsPlaced prefix log leaks) by.listed by.placed.each)

-- what is picked by a test stays what it was if only others are left out first
narrowed : {X : Type 0} (q r : X → Bool) (xs : List X) → All (λ x. q x ≡ true → r x ≡ true) xs → filter q xs ≡ filter q (filter r xs)
narrowed q r [] all = refl
narrowed q r (x ∷ xs) all = go (q x) (r x) refl refl (narrowed q r xs (λ k d h. all (suc k) d (omega arith)))
  where
    go : (s t : Bool) → q x ≡ s → r x ≡ t → filter q xs ≡ filter q (filter r xs) → filter q (x ∷ xs) ≡ filter q (filter r (x ∷ xs))
    go true true e f rest = rw (f, e) (ap (λ ys. x ∷ ys) rest)
    go true false e f rest = absurd (let g : r x ≡ true = all 0 x (omega arith) e in cc)
    go false true e f rest = rw (f, e) rest
    go false false e f rest = rw (f, e) rest

filter_map : {X Y : Type 0} (f : X → Y) (q : Y → Bool) (xs : List X) → filter q (map f xs) ≡ map f (filter (λ x. q (f x)) xs)
filter_map f q [] = refl
filter_map f q (x ∷ xs) = go (q (f x)) refl (filter_map f q xs)
  where
    go : (t : Bool) → q (f x) ≡ t → filter q (map f xs) ≡ map f (filter (λ x. q (f x)) xs) → filter q (map f (x ∷ xs)) ≡ map f (filter (λ x. q (f x)) (x ∷ xs))
    go true e rest = rw e (ap (λ ys. f x ∷ ys) rest)
    go false e rest = rw e rest

-- the numbers of one place tie
same_place : (m n : ℕ) → m ≡ n → (not (is_lt (nat_cmp m n)) && not (is_lt (nat_cmp n m))) ≡ true
same_place m n e = rw (e, tied_itself nat_cmp_total n) refl

-- those of one text are those that they were, in the same order
text_stays : (prefix log : List ℕ) (leaks : List Leak) (sorted : List PlacedLeak) (text : List ℕ) → AreByPlace prefix log leaks sorted
    → with_text log text (map (leak_of leaks) sorted) ≡ with_text log text leaks
text_stays prefix log leaks sorted text by =
    let f : PlacedLeak → Leak = leak_of leaks in
    let q : Leak → Bool = λ l. bytes_eq (text_at log l.block.caller) text in
    let g : PlacedLeak → Bool = λ p. bytes_eq (text_at log (leak_of leaks p).block.caller) text in
    let at : PlacedLeak = record { place = place_of prefix text; number = 0 } in
    let t : PlacedLeak → Bool = λ p. not (is_lt (nat_cmp at.place p.place)) && not (is_lt (nat_cmp p.place at.place)) in
    let ties : (xs : List PlacedLeak) → All (IsPlaced prefix log leaks) xs → All (λ p. g p ≡ true → t p ≡ true) xs =
    λ xs all k d h is. same_place at.place (get_or xs k d).place
    (ap (place_of prefix) (sym ((bytes_eq-Decides (text_at log (leak_of leaks (get_or xs k d)).block.caller) text).0 is)) ∙ sym (all k d h).place) in
    let each : All (IsPlaced prefix log leaks) by.listed = all_at (IsPlaced prefix log leaks) by.listed by.placed.each in
    filter_map f q sorted
    ∙ ap (map f) (narrowed g t sorted (ties sorted (each_sorted prefix log leaks sorted by)))
    ∙ ap (λ xs. map f (filter g xs)) (by.stable at)
    ∙ ap (map f) (sym (narrowed g t by.listed (ties by.listed each)))
    ∙ sym (filter_map f q by.listed)
    ∙ ap (filter q) by.placed.are

pub entries_sorted : (prefix log : List ℕ) (leaks : List Leak) (sorted : List PlacedLeak) (entries : List (Key × CallerRow)) → AreByPlace prefix log leaks sorted
    → AreEntries prefix log (map (leak_of leaks) sorted) entries → AreEntries prefix log leaks entries
entries_sorted prefix log leaks sorted entries by are = λ k.
    are k ∙ ap (λ (ls : List Leak). cond (nat_eq k.0 (place_of prefix k.1.now)) (row_from ls) None) (text_stays prefix log leaks sorted k.1.now by)

-- ---- room

-- a row of the first of some leaked blocks has room for the next
row_fits : (log : List ℕ) (leaks : List Leak) (i : ℕ) (d : Leak) (text : List ℕ) (r : Option CallerRow) → r ≡ row_with log (take i leaks) text → i < length leaks
    → length leaks < 2 ^ 64 → bytes_in leaks < 2 ^ 64 → IfSome r (λ row. HasRoom row (get_or leaks i d).block)
row_fits log leaks i d text r is h fits sum =
    let before : List Leak = take i leaks in
    let leak : Leak = get_or leaks i d in
    let has : Leak → Bool = λ (x : Leak). bytes_eq (text_at log x.block.caller) text in
    let size : Leak → ℕ = λ (x : Leak). x.block.size in
    let more : take (i + 1) leaks ≡ before ++ leak ∷ [] = take_more leaks i d h in
    let wide : bytes_in (before ++ leak ∷ []) ≤ bytes_in leaks = subst (λ (xs : List Leak). bytes_in xs ≤ bytes_in leaks) more (sum_by-take-le size leaks (i + 1)) in
    subst (λ (o : Option CallerRow). IfSome o (λ row. HasRoom row leak.block)) (sym is)
    (row_from-fits (with_text log text before) leak.block
    (omega (arith, length-filter_both has (λ x. not (has x)) (λ x. refl) before, length-take-le i leaks (omega arith), h, fits))
    (omega (arith, sum_by-filter_both has (λ x. not (has x)) (λ x. refl) size before, sum_by_push size before leak, wide, sum)))

sum_of_map : {X Y : Type 0} (f : X → Y) (g : Y → ℕ) (xs : List X) → sum_by g (map f xs) ≡ sum_by (λ x. g (f x)) xs
sum_of_map f g [] = refl
sum_of_map f g (x ∷ xs) = sum_by-cons g (f x) (map f xs) ∙ ap (λ (n : ℕ). g (f x) + n) (sum_of_map f g xs) ∙ sym (sum_by-cons (λ y. g (f y)) x xs)

pub sorted_fits : (prefix log : List ℕ) (leaks : List Leak) (sorted : List PlacedLeak) (i : ℕ) (d : PlacedLeak) (text : List ℕ) (r : Option CallerRow)
    → AreByPlace prefix log leaks sorted → r ≡ row_with log (map (leak_of leaks) (take i sorted)) text → i < length sorted
    → length leaks < 2 ^ 64 → bytes_in leaks < 2 ^ 64 → IfSome r (λ row. HasRoom row (leak_of leaks (get_or sorted i d)).block)
sorted_fits prefix log leaks sorted i d text r by is h fits sum =
    let f : PlacedLeak → Leak = leak_of leaks in
    let size : Leak → ℕ = λ (x : Leak). x.block.size in
    let many : length (map f sorted) ≡ length leaks = omega (
      arith,
      length-map sorted f,
      length_permutation by.listed sorted by.permutation,
      length-map by.listed f,
      ap (λ (xs : List Leak). length xs) by.placed.are,
    ) in
    let wide : bytes_in (map f sorted) ≡ bytes_in leaks = omega (
      arith,
      sum_of_map f size sorted,
      sum_by-IsPermutation (λ (p : PlacedLeak). size (f p)) by.listed sorted by.permutation,
      sum_of_map f size by.listed,
      ap bytes_in by.placed.are,
    ) in
    let at : get_or (map f sorted) i (f d) ≡ f (get_or sorted i d) = map_at f sorted i d h in
    subst (λ (l : Leak). IfSome r (λ row. HasRoom row l.block)) at
    (row_fits log (map f sorted) i (f d) text r (is ∙ ap (λ (ls : List Leak). row_with log ls text) (sym (take-map f i sorted))) (omega (arith, length-map sorted f, h)) (omega (arith, many, fits)) (omega (arith, wide, sum)))
  where
    map_at : {X Y : Type 0} (f : X → Y) (xs : List X) (i : ℕ) (d : X) → i < length xs → get_or (map f xs) i (f d) ≡ f (get_or xs i d)
    map_at f [] i d h = refl
    map_at f (x ∷ xs) zero d h = refl
    map_at f (x ∷ xs) (suc i) d h = map_at f xs i d (omega arith)

-- the first, and one more
pub sorted_more : (leaks : List Leak) (sorted : List PlacedLeak) (i : ℕ) (d : PlacedLeak) → i < length sorted
    → map (leak_of leaks) (take (i + 1) sorted) ≡ map (leak_of leaks) (take i sorted) ++ leak_of leaks (get_or sorted i d) ∷ []
sorted_more leaks sorted i d h = ap (map (leak_of leaks)) (take_more sorted i d h) ∙ map_push (leak_of leaks) (take i sorted) (get_or sorted i d)

cond_same : {X : Type 0} (t : Bool) (x : X) → cond t x x ≡ x
cond_same true x = refl
cond_same false x = refl

pub sorted_none : (prefix log : List ℕ) (entries : List (Key × CallerRow)) → entries ≡ [] → AreEntries prefix log [] entries
sorted_none prefix log entries is = λ k. rw is (sym (cond_same {X = Option CallerRow} (nat_eq k.0 (place_of prefix k.1.now)) None))

pub inside_sorted : (prefix log : List ℕ) (leaks : List Leak) (listed sorted : List PlacedLeak) (i : ℕ) (d : PlacedLeak) → AreByPlace prefix log leaks listed
    → sorted ≡ listed → i < length sorted → IsPlaced prefix log leaks (get_or sorted i d)
inside_sorted prefix log leaks listed sorted i d by same h =
    subst (λ (xs : List PlacedLeak). All (IsPlaced prefix log leaks) xs) (sym same) (each_sorted prefix log leaks listed by) i d h
