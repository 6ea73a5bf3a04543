-- What the root words of a range lead to, word by word.
use Rattle.std.proofs.Common.{◌≡◌, ℕ, zero, suc, ◌+◌, ◌-◌, ◌*◌, ◌/◌, ◌%◌, ◌<◌, ◌≤◌, Bool, true, false, refl, ap, sym, ◌∙◌, subst, List, [], ◌∷◌, ◌++◌, length, drop, map, Option, Some, None, IsSome, arith}
use Rattle.std.specs.Prelude.{cond}
use Rattle.std.specs.Int.{w64}
use Rattle.std.specs.List.{AllByRecursion, cons_option, filter, filter_map, flat_map, range_with_len}
use Rattle.std.specs.Option.{option_map_or}
use Rattle.std.proofs.lemmas.Grind.{flat_map-append}
use Rattle.std.proofs.lemmas.List.{length-drop}
use Rattle.leak_elf.specs.Fields.{number_at}
use Rattle.leak_elf.specs.Words.{IsRun}
use Rattle.leak_index.specs.declared.hits.Hits.{Hits}
use Rattle.leak_index.specs.declared.hits.Hits.TheVariants.{Zero}
use Rattle.leak_index.specs.Hits.{Index, hits_in, hits_of}
use Rattle.leak_scan.specs.RootWords.{held_by, held_from, targets_without_links, range_without_links}
use Rattle.leak_scan.specs.Targets.{targets_of}
use Rattle.leak_scan.proofs.Ahead.{all_append}
use Rattle.leak_scan.proofs.Ranges.{IsAligned, none_between}
use Rattle.leak_scan.proofs.Runs.{number_drop}

-- what the words at a number of addresses lead to
abbrev over : (ℕ → Option ℕ) → Index → ℕ → ℕ → List ℕ
over f index from count = targets_without_links f index (range_with_len from count)

-- the same, by the same numbers
same_over : (f : ℕ → Option ℕ) (index : Index) (from to count left : ℕ) → from ≡ to → count ≡ left → over f index from count ≡ over f index to left
same_over f index from to count left e d = rw (e, d) refl

none_over : (f : ℕ → Option ℕ) (index : Index) (from : ℕ) → over f index from 0 ≡ []
unfolding targets_without_links
none_over f index from = refl

one_over : (f : ℕ → Option ℕ) (index : Index) (from count : ℕ) → over f index from (suc count) ≡ held_from f index from ++ over f index (from + 1) count
unfolding targets_without_links
one_over f index from count = refl

-- an address without a word
no_word_over : (f : ℕ → Option ℕ) (index : Index) (from count : ℕ) → f from ≡ None → over f index from (suc count) ≡ over f index (from + 1) count
no_word_over f index from count e =
    one_over f index from count ∙ ap (λ (o : Option ℕ). option_map_or (held_by f index from) o [] ++ over f index (from + 1) count) e

-- none of the addresses has a word
nothing_over : (f : ℕ → Option ℕ) (index : Index) (from count : ℕ) → ((a : ℕ) → from ≤ a → a < from + count → f a ≡ None) → over f index from count ≡ []
nothing_over f index from zero h = none_over f index from
nothing_over f index from (suc n) h =
    no_word_over f index from n (h from (omega arith) (omega arith))
    ∙ nothing_over f index (from + 1) n (λ a l u. h a (omega (arith, l)) (omega (arith, u)))

-- the first n addresses have none
skip_over : (f : ℕ → Option ℕ) (index : Index) (n from count to left : ℕ) → to ≡ from + n → left ≡ count - n → ((a : ℕ) → from ≤ a → a < from + n → f a ≡ None) → over f index from count ≡ over f index to left
skip_over f index zero from count to left e d h = same_over f index from to count left (omega (arith, e)) (omega (arith, d))
skip_over f index (suc n) from zero to left e d h = none_over f index from ∙ sym (same_over f index to to left 0 refl (omega (arith, d)) ∙ none_over f index to)
skip_over f index (suc n) from (suc count) to left e d h =
    no_word_over f index from count (h from (omega arith) (omega arith))
    ∙ skip_over f index n (from + 1) count to left (omega (arith, e)) (omega (arith, d)) (λ a l u. h a (omega (arith, l)) (omega (arith, u)))

-- the first address has a word, and the 7 after it have none
word_over : (f : ℕ → Option ℕ) (index : Index) (from count w : ℕ) → IsAligned f → f from ≡ Some w → 0 < count → over f index from count ≡ held_by f index from w ++ over f index (from + 8) (count - 8)
word_over f index from zero w aligned e h = absurd (omega (arith, h))
word_over f index from (suc count) w aligned e h =
    let at : from % 8 ≡ 0 = aligned from (subst (λ (x : Option ℕ). IsSome x) (sym e) refl) in
    one_over f index from count ∙ ap (λ (o : Option ℕ). option_map_or (held_by f index from) o [] ++ over f index (from + 1) count) e
    ∙ ap (λ (ts : List ℕ). held_by f index from w ++ ts) (skip_over f index 7 (from + 1) count (from + 8) (suc count - 8) (omega arith) (omega arith) (λ a l u. none_between f a aligned (λ z. omega (arith, at, z, l, u))))

-- ---- ranges

-- a word that lies in the range
pub range_word : (f : ℕ → Option ℕ) (index : Index) (from to later w : ℕ) → IsAligned f → f from ≡ Some w → later ≡ from + 8 → later ≤ to → range_without_links f index from to ≡ held_by f index from w ++ range_without_links f index later to
range_word f index from to later w aligned e l h =
    word_over f index from (to - 7 - from) w aligned e (omega (arith, l, h))
    ∙ ap (λ (ts : List ℕ). held_by f index from w ++ ts) (same_over f index (from + 8) later (to - 7 - from - 8) (to - 7 - later) (sym l) (omega (arith, l)))

-- the hits of such a word
pub range_hit : (f : ℕ → Option ℕ) (index : Index) (from to later w : ℕ) (hits : Hits) → IsAligned f → f from ≡ Some w → later ≡ from + 8 → later ≤ to → hits_in hits ≡ held_by f index from w → range_without_links f index from to ≡ hits_in hits ++ range_without_links f index later to
range_hit f index from to later w hits aligned e l h held =
    range_word f index from to later w aligned e l h ∙ ap (λ (ts : List ℕ). ts ++ range_without_links f index later to) (sym held)

-- such a word leads nowhere
pub range_passed : (f : ℕ → Option ℕ) (index : Index) (from to later w : ℕ) → IsAligned f → f from ≡ Some w → later ≡ from + 8 → later ≤ to → [] ≡ held_by f index from w → range_without_links f index from to ≡ range_without_links f index later to
range_passed f index from to later w aligned e l h held =
    range_word f index from to later w aligned e l h ∙ ap (λ (ts : List ℕ). ts ++ range_without_links f index later to) (sym held)

-- what was looked at leads nowhere
pub none_held : (f : ℕ → Option ℕ) (index : Index) (from to later : ℕ) (hits : Hits) → hits ≡ Zero → range_without_links f index from to ≡ hits_in hits ++ range_without_links f index later to → range_without_links f index from to ≡ range_without_links f index later to
none_held f index from to later hits z split = split ∙ ap (λ (x : Hits). hits_in x ++ range_without_links f index later to) z

-- no word up to a later address
pub range_later : (f : ℕ → Option ℕ) (index : Index) (from to later : ℕ) → from ≤ later → ((a : ℕ) → from ≤ a → a < later → f a ≡ None) → range_without_links f index from to ≡ range_without_links f index later to
range_later f index from to later l h =
    skip_over f index (later - from) from (to - 7 - from) later (to - 7 - later) (omega (arith, l)) (omega (arith, l)) (λ a m u. h a m (omega (arith, l, u)))

-- no word that lies in the range
pub range_none : (f : ℕ → Option ℕ) (index : Index) (from to : ℕ) → ((a : ℕ) → from ≤ a → a + 7 < to → f a ≡ None) → range_without_links f index from to ≡ []
range_none f index from to h = nothing_over f index from (to - 7 - from) (λ a l u. h a l (omega (arith, u)))

-- nothing is left of a range at its end
pub range_end : (f : ℕ → Option ℕ) (index : Index) (to : ℕ) → range_without_links f index to to ≡ []
range_end f index to = same_over f index to to (to - 7 - to) 0 refl (omega arith) ∙ none_over f index to

-- ---- runs

-- the first 8 bytes of a run are the word where it begins
pub run_first : (f : ℕ → Option ℕ) (from w : ℕ) (bytes : List ℕ) → IsRun f from bytes → 8 ≤ length bytes → w ≡ number_at w64 bytes 0 → f from ≡ Some w
run_first f from w bytes run h e =
    subst (λ (a : ℕ). f a ≡ Some (number_at w64 bytes 0)) (let z : from + 8 * 0 ≡ from = omega arith in z) (run 0 (omega (arith, h))) ∙ ap (λ (x : ℕ). Some x) (sym e)

-- and the others are a run
pub run_rest : (f : ℕ → Option ℕ) (from : ℕ) (bytes : List ℕ) → IsRun f from bytes → 8 ≤ length bytes → IsRun f (from + 8) (drop 8 bytes)
run_rest f from bytes run h k l =
    let place : from + 8 * (k + 1) ≡ from + 8 + 8 * k = omega arith in
    let at : 8 * (k + 1) ≡ 8 + 8 * k = omega arith in
    let long = length-drop 8 bytes in
    subst (λ (a : ℕ). f a ≡ Some (number_at w64 (drop 8 bytes) (8 * k))) place
    (run (k + 1) (omega (arith, long, l, h)) ∙ ap (λ (j : ℕ). Some (number_at w64 bytes j)) at ∙ ap (λ (x : ℕ). Some x) (sym (number_drop bytes 8 (8 * k))))

-- ---- multiples of 8

pub shifted : (a b n : ℕ) → map (λ i. a + 8 * i) (range_with_len (b + 1) n) ≡ map (λ i. a + 8 + 8 * i) (range_with_len b n)
shifted a b zero = refl
shifted a b (suc n) =
    ap (λ (k : ℕ). k ∷ map (λ i. a + 8 * i) (range_with_len (b + 1 + 1) n)) (let r : a + 8 * (b + 1) ≡ a + 8 + 8 * b = omega arith in r)
    ∙ ap (λ (l : List ℕ). (a + 8 + 8 * b) ∷ l) (shifted a (b + 1) n)

more_addresses : (f : ℕ → Option ℕ) (index : Index) (a : ℕ) (xs : List ℕ) → targets_without_links f index (a ∷ xs) ≡ held_from f index a ++ targets_without_links f index xs
unfolding targets_without_links
more_addresses f index a xs = refl

eighths_over : (f : ℕ → Option ℕ) (index : Index) → IsAligned f → (k a : ℕ) → a % 8 ≡ 0 → over f index a (8 * k + 1) ≡ targets_without_links f index (map (λ i. a + 8 * i) (range_with_len 0 (k + 1)))
eighths_over f index aligned zero a m = ap (λ (x : ℕ). targets_without_links f index (x ∷ [])) (let r : a ≡ a + 8 * 0 = omega arith in r)
eighths_over f index aligned (suc k) a m =
    same_over f index a a (8 * suc k + 1) (suc (8 * k + 8)) refl (omega arith)
    ∙ one_over f index a (8 * k + 8)
    ∙ ap (λ (ts : List ℕ). held_from f index a ++ ts)
    (skip_over f index 7 (a + 1) (8 * k + 8) (a + 8) (8 * k + 1) (omega arith) (omega arith) (λ x l u. none_between f x aligned (λ z. omega (arith, m, z, l, u)))
    ∙ eighths_over f index aligned k (a + 8) (omega (arith, m))
    ∙ ap (λ (l : List ℕ). targets_without_links f index l) (sym (shifted a 0 (k + 1))))
    ∙ sym (more_addresses f index a (map (λ i. a + 8 * i) (range_with_len 1 (k + 1))))
    ∙ ap (λ (x : ℕ). targets_without_links f index (x ∷ map (λ i. a + 8 * i) (range_with_len 1 (k + 1)))) (let r : a ≡ a + 8 * 0 = omega arith in r)
    ∙ ap (λ (n : ℕ). targets_without_links f index (map (λ i. a + 8 * i) (range_with_len 0 n))) (let r : suc (k + 1) ≡ suc k + 1 = omega arith in r)

-- the words of a range of multiples of 8 are at each eighth address
pub range_eighths : (f : ℕ → Option ℕ) (index : Index) → IsAligned f → (from to : ℕ) → from < to → from % 8 ≡ 0 → to % 8 ≡ 0 →
    range_without_links f index from to ≡ targets_without_links f index (map (λ i. from + 8 * i) (range_with_len 0 ((to - from) / 8)))
range_eighths f index aligned from to some m n =
    let k : ℕ = (to - from) / 8 - 1 in
    same_over f index from from (to - 7 - from) (8 * k + 1) refl (omega arith)
    ∙ eighths_over f index aligned k from m
    ∙ ap (λ (j : ℕ). targets_without_links f index (map (λ i. from + 8 * i) (range_with_len 0 j))) (let e : k + 1 ≡ (to - from) / 8 = omega arith in e)

-- addresses one list after another
pub without_append : (f : ℕ → Option ℕ) (index : Index) (xs ys : List ℕ) → targets_without_links f index (xs ++ ys) ≡ targets_without_links f index xs ++ targets_without_links f index ys
unfolding targets_without_links
without_append f index xs ys = flat_map-append (held_from f index) xs ys

-- ---- numbers of blocks

all_filter : (P : ℕ → Type 0) (p : ℕ → Bool) (xs : List ℕ) → AllByRecursion P xs → AllByRecursion P (filter p xs)
all_filter P p [] all = tt
all_filter P p (x ∷ xs) all = go (p x) (all_filter P p xs all.1)
  where
    go : (t : Bool) → AllByRecursion P (filter p xs) → AllByRecursion P (cond t (x ∷ filter p xs) (filter p xs))
    go true rest = (all.0, rest)
    go false rest = rest

all_of_append : (P : ℕ → Type 0) (xs ys : List ℕ) → AllByRecursion P (xs ++ ys) → AllByRecursion P xs × AllByRecursion P ys
all_of_append P [] ys all = (tt, all)
all_of_append P (x ∷ xs) ys all = let rest = all_of_append P xs ys all.1 in ((all.0, rest.0), rest.1)

-- what holds of all blocks that words lead to holds without links
pub all_without : (P : ℕ → Type 0) (f : ℕ → Option ℕ) (index : Index) (xs : List ℕ) → ((word : ℕ) → AllByRecursion P (hits_of index word)) → AllByRecursion P (targets_without_links f index xs)
unfolding targets_without_links
all_without P f index [] h = tt
all_without P f index (x ∷ xs) h = all_append P (held_from f index x) (targets_without_links f index xs) (at (f x)) (all_without P f index xs h)
  where
    at : (o : Option ℕ) → AllByRecursion P (option_map_or (held_by f index x) o [])
    at None = tt
    at (Some w) = all_filter P _ (hits_of index w) (h w)

-- and what holds of all that the words at the addresses lead to holds without links
pub all_within : (P : ℕ → Type 0) (f : ℕ → Option ℕ) (index : Index) (xs : List ℕ) → AllByRecursion P (targets_of index (filter_map f xs)) → AllByRecursion P (targets_without_links f index xs)
unfolding targets_without_links targets_of
all_within P f index [] all = tt
all_within P f index (x ∷ xs) all = at (f x) all (λ h. all_within P f index xs h)
  where
    at : (o : Option ℕ) → AllByRecursion P (flat_map (hits_of index) (cons_option o (filter_map f xs)))
        → (AllByRecursion P (flat_map (hits_of index) (filter_map f xs)) → AllByRecursion P (targets_without_links f index xs))
        → AllByRecursion P (option_map_or (held_by f index x) o [] ++ targets_without_links f index xs)
    at None h more = more h
    at (Some w) h more =
        let halves = all_of_append P (hits_of index w) (flat_map (hits_of index) (filter_map f xs)) h in
        all_append P (held_by f index x w) (targets_without_links f index xs) (all_filter P _ (hits_of index w) halves.0) (more halves.1)
