-- The rows that the program makes are those of the definition.
use Rattle.std.proofs.Common.{◌≡◌, ℕ, suc, zero, ◌+◌, ◌<◌, ◌≤◌, ◌⊎◌, inl, inr, Bool, true, false, not, ◌&&◌, cond, List, [], ◌∷◌, ◌++◌, length, map, filter, get_or, refl, sym, ap, subst, ◌∙◌, arith}
use Rattle.std.specs.List.{AllByRecursion, All, Contains}
use Rattle.std.specs.List.Sorted.{IsStrictlySortedBy, IsPermutation, IsSortedByKey, IsStableByKey, IsSortedBy, ties}
use Rattle.std.specs.Cmp.{IsTotalOrder}
use Rattle.std.specs.Cmp.Lexicographic.{slice_cmp}
use Rattle.std.specs.declared.cmp.Ordering.{Ordering}
use Rattle.std.specs.declared.cmp.Ordering.TheVariants.{Less, Equal, Greater}
use Rattle.std.specs.Ordering.{nat_cmp, is_lt, is_eq, eq_by_cmp, ordering_reverse, ordering_then}
use Rattle.std.proofs.lemmas.Cmp.{on_total, then_total, back_total, nat_cmp_total, nat_list_cmp_total, eq_by_cmp_equiv}
use Rattle.std.proofs.lemmas.List.{get_or-map, length-map}
use Rattle.std.proofs.lemmas.List.Sorted.{ranks_by, ties_stay_sorted, IsPermutation-map}
use Rattle.std.proofs.lemmas.Map.Keys.{IsDistinct-from_sorted, IsDistinct-IsPermutation, apart_from_distinct, Less-from_sorted, sorted_from_all_adjacent}
use Rattle.std.proofs.lemmas.Map.Lookups.{exact_bytes}
use denote.Ref.{Bor}
use Rattle.leak_lemmas.proofs.Members.{Has, each_has, each_from_All, each_implied, each_mapped, each_filtered, each_itself, each_moved, Has-map, Has-filter, Has-moved, same_elements, Has-get as Has_at}
use Rattle.leak_report.specs.Numbered.{AreNumbered, bytes_each, text_with}
use Rattle.leak_growth.specs.declared.rows.Row.{Row}
use Rattle.leak_growth.specs.declared.summing.Sizes.{Sizes}
use Rattle.leak_growth.specs.Rows.{Growth, plain, rank, ranked, raised, raised_growth, has_changed, is_changed, rows_with, AreRanked}
use Rattle.leak_growth.proofs.RankLemmas.{HasTied, each_ranked, sorted_ranked, ranked_has}

abbrev pub grew : Growth → Bool
grew g = has_changed g.earlier g.later g.new

pub rank_total : IsTotalOrder rank
rank_total = then_total (back_total (on_total (λ (g : Growth). raised_growth g.earlier g.later) nat_cmp_total)) (on_total (λ (g : Growth). g.text) nat_list_cmp_total)

abbrev with_sizes : (List ℕ → Sizes) → (List ℕ → Sizes) → (List ℕ → Sizes) → List ℕ → Growth
with_sizes f g h t = record { text = t; earlier = f t; later = g t; new = h t }

-- the rows of texts in their order
pub plain_rows : (f g h : List ℕ → Sizes) (slices : List (Bor (List ℕ)))
    → map plain (filter is_changed (rows_with slices (map f (bytes_each slices)) (map g (bytes_each slices)) (map h (bytes_each slices)))) ≡ filter grew (map (with_sizes f g h) (bytes_each slices))
plain_rows f g h [] = refl
plain_rows f g h (s ∷ slices) = go (has_changed (f s.now) (g s.now) (h s.now)) (plain_rows f g h slices)
  where
    rest : List Row
    rest = filter is_changed (rows_with slices (map f (bytes_each slices)) (map g (bytes_each slices)) (map h (bytes_each slices)))

    row : Row
    row = record { text = s; earlier = f s.now; later = g s.now; new = h s.now }

    go : (t : Bool)
        → map plain (filter is_changed (rows_with slices (map f (bytes_each slices)) (map g (bytes_each slices)) (map h (bytes_each slices)))) ≡ filter grew (map (with_sizes f g h) (bytes_each slices))
        → map plain (cond t (record { text = s; earlier = f s.now; later = g s.now; new = h s.now } ∷ filter is_changed (rows_with slices (map f (bytes_each slices)) (map g (bytes_each slices)) (map h (bytes_each slices))))
        (filter is_changed (rows_with slices (map f (bytes_each slices)) (map g (bytes_each slices)) (map h (bytes_each slices)))))
        ≡ cond t (with_sizes f g h s.now ∷ filter grew (map (with_sizes f g h) (bytes_each slices))) (filter grew (map (with_sizes f g h) (bytes_each slices)))
    go true e = ap (λ (gs : List Growth). with_sizes f g h s.now ∷ gs) e
    go false e = e

abbrev by_text : Growth → Growth → Ordering
by_text x y = slice_cmp nat_cmp x.text y.text

abbrev by_row_text : Row → Row → Ordering
by_row_text x y = slice_cmp nat_cmp x.text.now y.text.now

by_row_text_total : IsTotalOrder by_row_text
by_row_text_total = on_total (λ (r : Row). r.text.now) nat_list_cmp_total

-- texts that ascend, as growths, as some of these, and as rows
ascend_mapped : (f g h : List ℕ → Sizes) (ts : List (List ℕ)) → IsStrictlySortedBy (slice_cmp nat_cmp) ts → IsStrictlySortedBy by_text (map (with_sizes f g h) ts)
unfolding IsStrictlySortedBy
ascend_mapped f g h [] up = tt
ascend_mapped f g h (t ∷ ts) up = (each_mapped (with_sizes f g h) (λ x. slice_cmp nat_cmp t x.text ≡ Less) ts up.0, ascend_mapped f g h ts up.1)

ascend_filtered : {X : Type 0} (R : X → X → Ordering) (p : X → Bool) (xs : List X) → IsStrictlySortedBy R xs → IsStrictlySortedBy R (filter p xs)
unfolding IsStrictlySortedBy
ascend_filtered R p [] up = tt
ascend_filtered {X} R p (x ∷ xs) up = go (p x) (ascend_filtered R p xs up.1)
  where
    go : (t : Bool) → IsStrictlySortedBy R (filter p xs) → IsStrictlySortedBy R (cond t (x ∷ filter p xs) (filter p xs))
    go true rest = (each_implied (λ y. (R x y ≡ Less) × (p y ≡ true)) (λ y. R x y ≡ Less) (λ y h. h.0) (filter p xs) (each_filtered p (λ y. R x y ≡ Less) xs up.0), rest)
    go false rest = rest

each_unmapped : {X Y : Type 0} (f : X → Y) (P : Y → Type 0) (xs : List X) → AllByRecursion P (map f xs) → AllByRecursion (λ x. P (f x)) xs
each_unmapped f P [] all = tt
each_unmapped f P (x ∷ xs) all = (all.0, each_unmapped f P xs all.1)

ascend_unmapped : (rows : List Row) → IsStrictlySortedBy by_text (map plain rows) → IsStrictlySortedBy by_row_text rows
unfolding IsStrictlySortedBy
ascend_unmapped [] up = tt
ascend_unmapped (r ∷ rows) up = (each_unmapped plain (λ y. slice_cmp nat_cmp r.text.now y.text ≡ Less) rows up.0, ascend_unmapped rows up.1)

-- neighbors after the sort
neighbors : (a b : Row) → is_lt (nat_cmp (raised a) (raised b)) ≡ false → eq_by_cmp by_row_text a b ≡ false
    → (ties (λ (x y : Row). is_lt (nat_cmp (raised y) (raised x))) a b ≡ true → is_lt (by_row_text b a) ≡ false) → rank (plain a) (plain b) ≡ Less
neighbors a b falls apart tie =
    go (nat_cmp (raised b) (raised a)) refl (nat_cmp_total.antisymm (raised a) (raised b)) falls
    (λ same. tie (ap (λ t. not t && not (is_lt (nat_cmp (raised a) (raised b)))) (ap is_lt same) ∙ ap not falls))
  where
    text : (p : Ordering) → by_row_text a b ≡ ordering_reverse p → is_lt p ≡ false → is_eq (by_row_text a b) ≡ false → by_row_text a b ≡ Less
    text Less turned behind other = cc
    text Equal turned behind other = let tied : is_eq (by_row_text a b) ≡ true = ap is_eq turned in absurd (cc)
    text Greater turned behind other = turned

    go : (o : Ordering) → nat_cmp (raised b) (raised a) ≡ o → nat_cmp (raised a) (raised b) ≡ ordering_reverse (nat_cmp (raised b) (raised a)) → is_lt (nat_cmp (raised a) (raised b)) ≡ false
        → (nat_cmp (raised b) (raised a) ≡ Equal → is_lt (by_row_text b a) ≡ false) → ordering_then (nat_cmp (raised b) (raised a)) (by_row_text a b) ≡ Less
    go Less e turned falls tie = ap (λ o. ordering_then o (by_row_text a b)) e
    go Equal e turned falls tie = ap (λ o. ordering_then o (by_row_text a b)) e ∙ text (by_row_text b a) (by_row_text_total.antisymm a b) (tie e) apart
    go Greater e turned falls tie =
        let less : is_lt (nat_cmp (raised a) (raised b)) ≡ true = ap is_lt (turned ∙ ap ordering_reverse e) in
        absurd (cc)

sorted_rows : (given rows : List Row) → IsStrictlySortedBy by_row_text given → AreRanked given rows → IsStrictlySortedBy rank (map plain rows)
sorted_rows given rows up are =
    let nothing : Row = record { text = record { ref_ptr = (0, 0); now = [] }; earlier = record { blocks = 0; bytes = 0 }; later = record { blocks = 0; bytes = 0 }; new = record { blocks = 0; bytes = 0 } } in
    let sorted : IsSortedBy (λ x y. is_lt (by_row_text x y)) given = λ k d l h.
    ap is_lt (by_row_text_total.antisymm (get_or given (k + 1) d) (get_or given k d)) ∙ ap (λ o. is_lt (ordering_reverse o)) (Less-from_sorted by_row_text given k (k + 1) d up (omega arith) h) in
    sorted_from_all_adjacent rank_total (map plain rows) (plain nothing) (λ k h.
    let long : length (map plain rows) ≡ length rows = length-map rows plain in
    let at : rank (plain (get_or rows k nothing)) (plain (get_or rows (k + 1) nothing)) ≡ Less =
    neighbors (get_or rows k nothing) (get_or rows (k + 1) nothing) (are.sorted k nothing (omega arith) (omega (arith, h, long)))
    (apart_from_distinct (eq_by_cmp by_row_text) rows k (k + 1) nothing
    (IsDistinct-IsPermutation (eq_by_cmp by_row_text) (eq_by_cmp_equiv by_row_text_total).symm given rows are.permutation (IsDistinct-from_sorted by_row_text given up))
    (omega arith) (omega (arith, h, long)))
    (λ t. ties_stay_sorted (λ x y. is_lt (by_row_text x y)) (λ (x y : Row). is_lt (nat_cmp (raised y) (raised x)))
    (ranks_by nat_list_cmp_total (λ (r : Row). r.text.now)) (ranks_by (back_total nat_cmp_total) raised)
    given rows sorted are.stable k nothing (omega (arith, h, long)) t) in
    ap (λ (g : Growth). rank g (get_or (map plain rows) (k + 1) (plain nothing))) (get_or-map plain rows k nothing (plain nothing) (omega (arith, h, long)))
    ∙ ap (λ (g : Growth). rank (plain (get_or rows k nothing)) g) (get_or-map plain rows (k + 1) nothing (plain nothing) (omega (arith, h, long)))
    ∙ at)

each_has_place : {X : Type 0} (xs ys : List X) → All (Contains xs) ys → AllByRecursion (Has xs) ys
each_has_place xs ys all =
    each_implied (Contains xs) (Has xs) (λ y at. subst (Has xs) at.2 (Has_at xs at.0 y at.1)) ys (each_from_All (Contains xs) ys all)

-- rows of one rank have one text
one_text : (x y : Growth) → rank x y ≡ Equal → x.text ≡ y.text
one_text x y e = exact_bytes x.text y.text (second (nat_cmp (raised_growth y.earlier y.later) (raised_growth x.earlier x.later)) (slice_cmp nat_cmp x.text y.text) e)
  where
    second : (o p : Ordering) → ordering_then o p ≡ Equal → p ≡ Equal
    second Less p e = cc
    second Equal p e = e
    second Greater p e = cc

-- a growth of one of the texts, which has changed
abbrev IsOf : (List ℕ → Growth) → List (List ℕ) → Growth → Type 0
IsOf G texts x = (t : List ℕ) × Has texts t × (x ≡ G t)

each_of : (G : List ℕ → Growth) (all texts : List (List ℕ)) → AllByRecursion (Has all) texts → AllByRecursion (λ x. IsOf G all x × (grew x ≡ true)) (filter grew (map G texts))
each_of G all texts has =
    each_filtered grew (IsOf G all) (map G texts) (each_mapped G (IsOf G all) texts (each_implied (Has all) (λ t. IsOf G all (G t)) (λ t h. (t, h, refl)) texts has))

-- and each such is there, by rank
is_ranked : (f g h : List ℕ → Sizes) (all : List (List ℕ)) (x : Growth) → IsOf (with_sizes f g h) all x × (grew x ≡ true)
    → Has (ranked rank (filter grew (map (with_sizes f g h) all))) x
is_ranked f g h all x is =
    let G : List ℕ → Growth = with_sizes f g h in
    let listed : List Growth = filter grew (map G all) in
    let there : Has listed x = Has-filter grew (map G all) x (subst (Has (map G all)) (sym is.0.2) (Has-map G all is.0.0 is.0.1)) is.1 in
    let tied : HasTied rank (ranked rank listed) x = ranked_has rank rank_total listed x there in
    let other : IsOf G all tied.0 = each_has (IsOf G all) (ranked rank listed) tied.0
    (each_ranked rank (IsOf G all) listed (each_implied (λ x. IsOf G all x × (grew x ≡ true)) (IsOf G all) (λ x h. h.0) listed (each_of G all all (each_itself all)))) tied.1 in
    let same : is.0.0 ≡ other.0 = ap (λ (x : Growth). x.text) (sym is.0.2) ∙ one_text x tied.0 tied.2 ∙ ap (λ (x : Growth). x.text) other.2 in
    subst (Has (ranked rank listed)) (other.2 ∙ ap G (sym same) ∙ sym is.0.2) tied.1

pub rows_are : (f g h : List ℕ → Sizes) (all : List (List ℕ)) (slices : List (Bor (List ℕ))) (numbers : List ℕ) (rows : List Row) → AreNumbered all (bytes_each slices) numbers
    → AreRanked (filter is_changed (rows_with slices (map f (bytes_each slices)) (map g (bytes_each slices)) (map h (bytes_each slices)))) rows
    → map plain rows ≡ ranked rank (filter grew (map (with_sizes f g h) all))
rows_are f g h all slices numbers rows are by =
    let G : List ℕ → Growth = with_sizes f g h in
    let texts : List (List ℕ) = bytes_each slices in
    let given : List Row = filter is_changed (rows_with slices (map f texts) (map g texts) (map h texts)) in
    let listed : List Growth = filter grew (map G all) in
    let plainly : map plain given ≡ filter grew (map G texts) = plain_rows f g h slices in
    let up : IsStrictlySortedBy by_row_text given = ascend_unmapped given (subst (IsStrictlySortedBy by_text) (sym plainly) (ascend_filtered by_text grew (map G texts) (ascend_mapped f g h texts are.ascending))) in
    let moved : IsPermutation (map plain given) (map plain rows) = IsPermutation-map plain given rows by.permutation in
    let in_texts : AllByRecursion (Has texts) all = subst (AllByRecursion (Has texts)) are.same
    (each_mapped (text_with texts) (Has texts) numbers (each_implied (λ n. n < length texts) (λ n. Has texts (text_with texts n)) (λ n h. Has_at texts n [] h) numbers (each_from_All (λ n. n < length texts) numbers are.below))) in
    same_elements rank rank_total (map plain rows) (ranked rank listed) (sorted_rows given rows up by) (sorted_ranked rank rank_total listed)
    (each_moved (Has (ranked rank listed)) (map plain given) (map plain rows) moved
    (subst (AllByRecursion (Has (ranked rank listed))) (sym plainly)
    (each_implied (λ x. IsOf G all x × (grew x ≡ true)) (Has (ranked rank listed)) (is_ranked f g h all) (filter grew (map G texts)) (each_of G all texts (each_has_place all texts are.each)))))
    (each_ranked rank (Has (map plain rows)) listed
    (each_implied (λ x. IsOf G texts x × (grew x ≡ true)) (Has (map plain rows))
    (λ x is. Has-moved (map plain given) (map plain rows) x moved (subst (λ (xs : List Growth). Has xs x) (sym plainly)
    (Has-filter grew (map G texts) x (subst (Has (map G texts)) (sym is.0.2) (Has-map G texts is.0.0 is.0.1)) is.1)))
    listed (each_of G texts all in_texts)))
