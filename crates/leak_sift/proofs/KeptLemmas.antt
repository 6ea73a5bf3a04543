-- The words behind a head that aren't 0, one after another.
use Rattle.std.proofs.Common.{◌≡◌, ◌≢◌, ◌∙◌, ℕ, zero, suc, ◌+◌, ◌*◌, ◌/◌, ◌%◌, ◌^◌, ◌<◌, ◌≤◌, ◌⊎◌, inl, inr, Bool, true, not, cond, List, [], ◌∷◌, ◌++◌, length, take, drop, get_or, Option, Some, refl, sym, ap, subst, arith}
use Rattle.std.specs.Prelude.{◌==◌, filter, slice_get}
use Rattle.std.proofs.lemmas.Bool.{cases_eq, ne_eqb}
use Rattle.std.proofs.lemmas.List.{drop_more}
use Rattle.std.proofs.lemmas.Option.{slice_get-get_or}
use Rattle.leak_elf.specs.Head.{aligned_number_at}
use Rattle.leak_elf.specs.Words.{kept_words, nonzero}
use Rattle.leak_sparse.specs.Words.{kept_from}
use Rattle.leak_sift.specs.Behind.{AreWords, HasWords, bytes_behind}
use Rattle.leak_sift.proofs.BehindLemmas.{word_at}

-- ---- one word more

more_zero : (words : List ℕ) (place count : ℕ) → place < length words → get_or words place 0 ≡ 0 → kept_from words place (suc count) ≡ kept_from words (place + 1) count
more_zero words place count inside e =
    ap (λ (ws : List ℕ). filter (λ (word : ℕ). not (word == 0)) (take (suc count) ws)) (drop_more words place 0 inside)
    ∙ ap (λ (w : ℕ). filter (λ (word : ℕ). not (word == 0)) (w ∷ take count (drop (place + 1) words))) e

more_kept : (words : List ℕ) (place count : ℕ) → place < length words → get_or words place 0 ≢ 0 → kept_from words place (suc count) ≡ get_or words place 0 ∷ kept_from words (place + 1) count
more_kept words place count inside kept =
    let word = get_or words place 0 in
    let rest = kept_from words (place + 1) count in
    let is : not (word == 0) ≡ true = ap not (ne_eqb word 0 kept) in
    ap (λ (ws : List ℕ). filter (λ (w : ℕ). not (w == 0)) (take (suc count) ws)) (drop_more words place 0 inside)
    ∙ ap (λ (b : Bool). cond b (word ∷ rest) rest) is

nonzero_is : (word : ℕ) → word ≢ 0 → nonzero (Some word) ≡ word ∷ []
nonzero_is zero kept = absurd (kept refl)
nonzero_is (suc n) kept = refl

-- the word of the bytes is that of the list
word_is : (words : List ℕ) (len at place : ℕ) → HasWords words len → at ≡ 8 * place → place < length words → get_or words place 0 < 2 ^ 64 → aligned_number_at (bytes_behind words len) at ≡ Some (get_or words place 0)
word_is words len at place has e inside fits =
    let here : at / 8 ≡ place = omega (arith, e) in
    let read : Some (get_or words place 0) ≡ slice_get words (at / 8) = sym (ap (slice_get words) here ∙ slice_get-get_or words place 0 inside) in
    sym (word_at words len at (Some (get_or words place 0)) has (omega (arith, e)) read fits)

-- ---- so many

pub behind_kept : (words : List ℕ) (len at place count : ℕ) → HasWords words len → at ≡ 8 * place → place + count ≤ length words → AreWords (kept_from words place count)
    → kept_words (aligned_number_at (bytes_behind words len)) at count ≡ kept_from words place count
behind_kept words len at place zero has e within fit = refl
behind_kept words len at place (suc count) has e within fit = go (cases_eq (get_or words place 0) 0) (behind_kept words len (at + 8) (place + 1) count has (omega (arith, e)) (omega (arith, within)))
  where
    f : ℕ → Option ℕ
    f = aligned_number_at (bytes_behind words len)

    inside : place < length words
    inside = omega (arith, within)

    go : (get_or words place 0 ≡ 0) ⊎ (get_or words place 0 ≢ 0) → (AreWords (kept_from words (place + 1) count) → kept_words f (at + 8) count ≡ kept_from words (place + 1) count)
        → kept_words f at (suc count) ≡ kept_from words place (suc count)
    go (inl z) others =
        let same = more_zero words place count inside z in
        let word : f at ≡ Some 0 = word_is words len at place has e inside (omega (arith, z)) ∙ ap (λ (w : ℕ). Some w) z in
        ap (λ (x : Option ℕ). nonzero x ++ kept_words f (at + 8) count) word ∙ others (subst AreWords same fit) ∙ sym same
    go (inr kept) others =
        let same = more_kept words place count inside kept in
        let all : AreWords (get_or words place 0 ∷ kept_from words (place + 1) count) = subst AreWords same fit in
        let word : f at ≡ Some (get_or words place 0) = word_is words len at place has e inside (all 0) in
        ap (λ (x : Option ℕ). nonzero x ++ kept_words f (at + 8) count) word
        ∙ ap (λ (ws : List ℕ). ws ++ kept_words f (at + 8) count) (nonzero_is (get_or words place 0) kept)
        ∙ ap (λ (ws : List ℕ). get_or words place 0 ∷ ws) (others (λ k. all (suc k))) ∙ sym same
