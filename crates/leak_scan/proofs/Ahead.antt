-- Targets of the words that a scan has left.
use Rattle.std.proofs.Common.{◌≡◌, ℕ, refl, ap, sym, ◌∙◌, List, [], ◌∷◌, ◌++◌, append_assoc, Option}
use Rattle.std.specs.List.{AllByRecursion}
use Rattle.leak_index.specs.declared.hits.Hits.{Hits}
use Rattle.leak_index.specs.declared.hits.Hits.TheVariants.{Zero}
use Rattle.leak_index.specs.Hits.{Index, hits_of, hits_in}
use Rattle.leak_scan.specs.Targets.{targets_of}
use Rattle.leak_scan.specs.Positions.{words_left, words_in, words_from}

pub targets_none : (index : Index) → targets_of index [] ≡ []
unfolding targets_of
targets_none index = refl

pub targets_more : (index : Index) (word : ℕ) (words : List ℕ) → targets_of index (word ∷ words) ≡ hits_of index word ++ targets_of index words
unfolding targets_of
targets_more index word words = refl

-- the targets of words one after another
pub targets_append : (index : Index) (xs ys : List ℕ) → targets_of index (xs ++ ys) ≡ targets_of index xs ++ targets_of index ys
unfolding targets_of
targets_append index [] ys = refl
targets_append index (x ∷ xs) ys = ap (λ ts. hits_of index x ++ ts) (targets_append index xs ys) ∙ sym (append_assoc (hits_of index x) (targets_of index xs) (targets_of index ys))

-- words that lead nowhere
pub targets_skip : (index : Index) (word : ℕ) (words : List ℕ) → [] ≡ hits_of index word → targets_of index (word ∷ words) ≡ targets_of index words
targets_skip index word words h = targets_more index word words ∙ ap (λ ts. ts ++ targets_of index words) (sym h)

-- ---- one step of a scan

-- a word of the list leads to blocks
pub list_hit : (index : Index) (f : ℕ → Option ℕ) (list others run hits : List ℕ) (from count : ℕ) → targets_of index list ≡ hits ++ targets_of index others →
    targets_of index (words_left f list run from count) ≡ hits ++ targets_of index (words_left f others run from count)
unfolding words_left
list_hit index f list others run hits from count h =
    let left = words_in run ++ words_from f from count in
    targets_append index list left ∙ ap (λ ts. ts ++ targets_of index left) h ∙ append_assoc hits (targets_of index others) (targets_of index left)
    ∙ ap (λ ts. hits ++ ts) (sym (targets_append index others left))

-- no word of it does
pub list_passed : (index : Index) (f : ℕ → Option ℕ) (list others run : List ℕ) (from count : ℕ) (hits : Hits) → targets_of index list ≡ hits_in hits ++ targets_of index others → hits ≡ Zero →
    targets_of index (words_left f list run from count) ≡ targets_of index (words_left f others run from count)
list_passed index f list others run from count hits h z =
    list_hit index f list others run (hits_in hits) from count h ∙ ap (λ x. hits_in x ++ targets_of index (words_left f others run from count)) z

-- a word of the run does
pub run_hit : (index : Index) (f : ℕ → Option ℕ) (list run others hits : List ℕ) (from count : ℕ) → list ≡ [] → targets_of index (words_in run) ≡ hits ++ targets_of index (words_in others) →
    targets_of index (words_left f list run from count) ≡ hits ++ targets_of index (words_left f list others from count)
unfolding words_left
run_hit index f list run others hits from count e h =
    let left = words_from f from count in
    ap (λ xs. targets_of index (xs ++ (words_in run ++ left))) e
    ∙ targets_append index (words_in run) left ∙ ap (λ ts. ts ++ targets_of index left) h ∙ append_assoc hits (targets_of index (words_in others)) (targets_of index left)
    ∙ ap (λ ts. hits ++ ts) (sym (targets_append index (words_in others) left))
    ∙ ap (λ xs. hits ++ targets_of index (xs ++ (words_in others ++ left))) (sym e)

-- no word of it does
pub run_passed : (index : Index) (f : ℕ → Option ℕ) (list run others : List ℕ) (from count : ℕ) (hits : Hits) → list ≡ [] → targets_of index (words_in run) ≡ hits_in hits ++ targets_of index (words_in others) → hits ≡ Zero →
    targets_of index (words_left f list run from count) ≡ targets_of index (words_left f list others from count)
run_passed index f list run others from count hits e h z =
    run_hit index f list run others (hits_in hits) from count e h ∙ ap (λ x. hits_in x ++ targets_of index (words_left f list others from count)) z

-- when the list and the run are used up, the words at the addresses are left
addresses_left : (f : ℕ → Option ℕ) (list run : List ℕ) (from count : ℕ) → list ≡ [] → words_in run ≡ [] → words_left f list run from count ≡ words_from f from count
unfolding words_left
addresses_left f list run from count e d = ap (λ ws. list ++ (ws ++ words_from f from count)) d ∙ ap (λ ws. ws ++ words_from f from count) e

-- then words were found, and are in a run
pub found_run : (index : Index) (f : ℕ → Option ℕ) (list run other found : List ℕ) (from count later left : ℕ) → list ≡ [] → words_in run ≡ [] → targets_of index (words_from f from count) ≡ targets_of index found ++ targets_of index (words_from f later left) → words_in other ≡ found →
    targets_of index (words_left f list run from count) ≡ targets_of index (words_left f list other later left)
unfolding words_left
found_run index f list run other found from count later left e d h o =
    ap (targets_of index) (addresses_left f list run from count e d) ∙ h ∙ sym (targets_append index found (words_from f later left))
    ∙ ap (λ ws. targets_of index (ws ++ words_from f later left)) (sym o) ∙ ap (λ ws. targets_of index (ws ++ (words_in other ++ words_from f later left))) (sym e)

-- or in a list
pub found_list : (index : Index) (f : ℕ → Option ℕ) (list run found : List ℕ) (from count later left : ℕ) → list ≡ [] → words_in run ≡ [] → targets_of index (words_from f from count) ≡ targets_of index found ++ targets_of index (words_from f later left) →
    targets_of index (words_left f list run from count) ≡ targets_of index (words_left f found run later left)
unfolding words_left
found_list index f list run found from count later left e d h =
    ap (targets_of index) (addresses_left f list run from count e d) ∙ h ∙ sym (targets_append index found (words_from f later left))
    ∙ ap (λ ws. targets_of index (found ++ (ws ++ words_from f later left))) (sym d)

-- one word was
pub found_word : (index : Index) (f : ℕ → Option ℕ) (list run : List ℕ) (from count later left w : ℕ) → list ≡ [] → words_in run ≡ [] → targets_of index (words_from f from count) ≡ targets_of index (w ∷ []) ++ targets_of index (words_from f later left) →
    targets_of index (words_left f list run from count) ≡ targets_of index (w ∷ words_left f list run later left)
found_word index f list run from count later left w e d h =
    ap (targets_of index) (addresses_left f list run from count e d) ∙ h ∙ sym (targets_append index (w ∷ []) (words_from f later left))
    ∙ ap (λ ws. targets_of index (w ∷ ws)) (sym (addresses_left f list run later left e d))

-- nothing is left
pub ahead_none : (f : ℕ → Option ℕ) (list run : List ℕ) (from count : ℕ) → list ≡ [] → words_in run ≡ [] → words_from f from count ≡ [] → words_left f list run from count ≡ []
unfolding words_left
ahead_none f list run from count e d h = ap (λ ws. ws ++ (words_in run ++ words_from f from count)) e ∙ ap (λ ws. ws ++ words_from f from count) d ∙ h

-- ---- numbers of blocks

pub all_append : (P : ℕ → Type 0) (xs ys : List ℕ) → AllByRecursion P xs → AllByRecursion P ys → AllByRecursion P (xs ++ ys)
all_append P [] ys all more = more
all_append P (x ∷ xs) ys all more = (all.0, all_append P xs ys all.1 more)

pub all_targets : (P : ℕ → Type 0) (index : Index) (words : List ℕ) → ((word : ℕ) → AllByRecursion P (hits_of index word)) → AllByRecursion P (targets_of index words)
unfolding targets_of
all_targets P index [] h = tt
all_targets P index (word ∷ words) h = all_append P (hits_of index word) (targets_of index words) (h word) (all_targets P index words h)
