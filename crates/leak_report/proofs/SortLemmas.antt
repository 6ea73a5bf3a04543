-- Texts that are sorted, and the places that a search finds among them.
use Rattle.std.proofs.Common.{◌≡◌, ℕ, ◌+◌, ◌<◌, ◌≤◌, ⊎_elim, true, false, List, [], length, get_or, refl, sym, ap, subst, ◌∙◌, arith}
use Rattle.std.specs.List.{Contains}
use Rattle.std.specs.List.Sorted.{IsPermutation, IsSorted, IsStrictlySortedBy, IsNonDecreasingBy, IsPartitionPoint}
use Rattle.std.specs.Cmp.Lexicographic.{slice_cmp}
use Rattle.std.specs.declared.cmp.Ordering.{Ordering}
use Rattle.std.specs.declared.cmp.Ordering.TheVariants.{Less, Equal, Greater}
use Rattle.std.specs.Ordering.{nat_cmp, is_lt, is_eq, ordering_index, ordering_reverse, eq_by_cmp}
use Rattle.std.proofs.lemmas.Bool.{cases_lt}
use Rattle.std.proofs.lemmas.Cmp.{nat_list_cmp_total, eq_by_cmp_equiv, tied_itself}
use Rattle.std.proofs.lemmas.List.{get_or-map, length-map, get_or_default}
use Rattle.std.proofs.lemmas.List.Elements.{Contains-get_or}
use Rattle.std.proofs.lemmas.List.Sorted.{IsPermutation-map, Contains-permutation, searchable_from_sorted}
use Rattle.std.proofs.lemmas.Map.Keys.{IsDistinct-from_apart, IsDistinct-IsPermutation, apart_from_distinct, sorted_from_all_adjacent}
use Rattle.std.proofs.lemmas.Map.Lookups.{exact_bytes}
use denote.Ref.{Bor}
use Rattle.leak_report.specs.Numbered.{bytes_each, text_with}
use Rattle.leak_report.specs.Meeting.{IsSortOf}

abbrev pub by_bytes : Bor (List ℕ) → Bor (List ℕ) → Ordering
by_bytes x y = slice_cmp nat_cmp x.now y.now

-- the text at a place
pub text_at_place : (slices : List (Bor (List ℕ))) (k : ℕ) (d : Bor (List ℕ)) → k < length slices → text_with (bytes_each slices) k ≡ (get_or slices k d).now
text_at_place slices k d h = get_or-map (λ (s : Bor (List ℕ)). s.now) slices k d [] h

-- a slice is its bytes
pub found_there : (sorted : List (Bor (List ℕ))) (text : List ℕ) (k : ℕ) → k < length sorted → ((d : Bor (List ℕ)) → slice_cmp nat_cmp (get_or sorted k d).now text ≡ Equal)
    → text_with (bytes_each sorted) k ≡ text
found_there sorted text k h at =
    let nothing : Bor (List ℕ) = record { ref_ptr = (0, 0); now = [] } in
    text_at_place sorted k nothing h ∙ exact_bytes (get_or sorted k nothing).now text (at nothing)

-- a text that is one of them is found
pub is_found : (sorted : List (Bor (List ℕ))) (text : List ℕ) (i : ℕ) → IsSorted by_bytes sorted → Contains (bytes_each sorted) text
    → (IsNonDecreasingBy (λ y. ordering_index (slice_cmp nat_cmp y.now text)) sorted
    → IsPartitionPoint (λ y. slice_cmp nat_cmp y.now text ≡ Less) (λ y. slice_cmp nat_cmp y.now text ≡ Greater) sorted i)
    → ⊥
is_found sorted text i up has parts = ⊎_elim before after (cases_lt has.0 i)
  where
    nothing : Bor (List ℕ)
    nothing = record { ref_ptr = (0, 0); now = [] }

    inside : has.0 < length sorted
    inside = omega (arith, has.1, length-map sorted (λ (s : Bor (List ℕ)). s.now))

    here : (get_or sorted has.0 nothing).now ≡ text
    here = sym (text_at_place sorted has.0 nothing inside) ∙ get_or_default (bytes_each sorted) has.0 [] text has.1 ∙ has.2

    itself : slice_cmp nat_cmp (get_or sorted has.0 nothing).now text ≡ Equal
    itself = ap (λ (t : List ℕ). slice_cmp nat_cmp t text) here ∙ tied_itself nat_list_cmp_total text

    both : IsPartitionPoint (λ (y : Bor (List ℕ)). slice_cmp nat_cmp y.now text ≡ Less) (λ (y : Bor (List ℕ)). slice_cmp nat_cmp y.now text ≡ Greater) sorted i
    both = parts (searchable_from_sorted nat_list_cmp_total (λ (s : Bor (List ℕ)). s.now) sorted text up)

    before : has.0 < i → ⊥
    before h = let less : slice_cmp nat_cmp (get_or sorted has.0 nothing).now text ≡ Less = both.0 has.0 nothing (omega arith) h in let tied = itself in cc

    after : i ≤ has.0 → ⊥
    after h = let greater : slice_cmp nat_cmp (get_or sorted has.0 nothing).now text ≡ Greater = both.1 has.0 nothing h inside in let tied = itself in cc

-- the same texts in another order
pub same_texts : (texts sorted : List (Bor (List ℕ))) → IsSortOf texts sorted → IsPermutation (bytes_each texts) (bytes_each sorted)
same_texts texts sorted sort = IsPermutation-map (λ (s : Bor (List ℕ)). s.now) texts sorted sort.permutation

-- each text is one of those that are sorted
pub stands : (texts sorted : List (Bor (List ℕ))) (k : ℕ) (d : Bor (List ℕ)) → IsSortOf texts sorted → k < length texts → Contains (bytes_each sorted) (get_or texts k d).now
stands texts sorted k d sort h =
    Contains-permutation (bytes_each texts) (bytes_each sorted) (get_or texts k d).now (same_texts texts sorted sort)
    (subst (Contains (bytes_each texts)) (text_at_place texts k d h)
    (Contains-get_or (bytes_each texts) k [] (omega (arith, h, length-map texts (λ (s : Bor (List ℕ)). s.now)))))

-- texts that differ ascend strictly once they are sorted
pub strictly : (texts sorted : List (Bor (List ℕ))) → IsSortOf texts sorted
    → ((i j : ℕ) → i < length (bytes_each texts) → j < length (bytes_each texts) → text_with (bytes_each texts) i ≡ text_with (bytes_each texts) j → i ≡ j)
    → IsStrictlySortedBy (slice_cmp nat_cmp) (bytes_each sorted)
strictly texts sorted sort apart = sorted_from_all_adjacent nat_list_cmp_total after [] (λ k h. neighbors k h)
  where
    given : List (List ℕ)
    given = bytes_each texts

    after : List (List ℕ)
    after = bytes_each sorted

    nothing : Bor (List ℕ)
    nothing = record { ref_ptr = (0, 0); now = [] }

    other : (i j : ℕ) (d : List ℕ) → i < j → j < length given → eq_by_cmp (slice_cmp nat_cmp) (get_or given i d) (get_or given j d) ≡ false
    other i j d h k = go (slice_cmp nat_cmp (get_or given i d) (get_or given j d)) refl
      where
        go : (o : Ordering) → slice_cmp nat_cmp (get_or given i d) (get_or given j d) ≡ o → is_eq (slice_cmp nat_cmp (get_or given i d) (get_or given j d)) ≡ false
        go Less e = ap is_eq e
        go Equal e =
            let same : text_with given i ≡ text_with given j =
            get_or_default given i [] d (omega arith) ∙ exact_bytes (get_or given i d) (get_or given j d) e ∙ get_or_default given j d [] k in
            let one : i ≡ j = apart i j (omega arith) k same in
            absurd (omega arith)
        go Greater e = ap is_eq e

    neighbors : (k : ℕ) → k + 1 < length after → slice_cmp nat_cmp (get_or after k []) (get_or after (k + 1) []) ≡ Less
    neighbors k h = go (slice_cmp nat_cmp (get_or after (k + 1) []) (get_or after k [])) refl
      where
        long : length after ≡ length sorted
        long = length-map sorted (λ (s : Bor (List ℕ)). s.now)

        rises : is_lt (slice_cmp nat_cmp (get_or after (k + 1) []) (get_or after k [])) ≡ false
        rises =
            ap (λ (t : List ℕ). is_lt (slice_cmp nat_cmp t (get_or after k []))) (text_at_place sorted (k + 1) nothing (omega (arith, h, long)))
            ∙ ap (λ (t : List ℕ). is_lt (slice_cmp nat_cmp (get_or sorted (k + 1) nothing).now t)) (text_at_place sorted k nothing (omega (arith, h, long)))
            ∙ sort.ordered k nothing (omega arith) (omega (arith, h, long))

        differs : is_eq (slice_cmp nat_cmp (get_or after k []) (get_or after (k + 1) [])) ≡ false
        differs =
            apart_from_distinct (eq_by_cmp (slice_cmp nat_cmp)) after k (k + 1) []
            (IsDistinct-IsPermutation (eq_by_cmp (slice_cmp nat_cmp)) (eq_by_cmp_equiv nat_list_cmp_total).symm given after (same_texts texts sorted sort)
            (IsDistinct-from_apart (eq_by_cmp (slice_cmp nat_cmp)) given other))
            (omega arith) h

        turned : slice_cmp nat_cmp (get_or after k []) (get_or after (k + 1) []) ≡ ordering_reverse (slice_cmp nat_cmp (get_or after (k + 1) []) (get_or after k []))
        turned = nat_list_cmp_total.antisymm (get_or after k []) (get_or after (k + 1) [])

        go : (o : Ordering) → slice_cmp nat_cmp (get_or after (k + 1) []) (get_or after k []) ≡ o → slice_cmp nat_cmp (get_or after k []) (get_or after (k + 1) []) ≡ Less
        go Less e = let falls : is_lt (slice_cmp nat_cmp (get_or after (k + 1) []) (get_or after k [])) ≡ true = ap is_lt e in let not = rises in absurd (cc)
        go Equal e = let tied : is_eq (slice_cmp nat_cmp (get_or after k []) (get_or after (k + 1) [])) ≡ true = ap is_eq (turned ∙ ap ordering_reverse e) in let not = differs in absurd (cc)
        go Greater e = turned ∙ ap ordering_reverse e
