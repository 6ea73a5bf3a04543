-- The words that are kept of a range of places.
use Rattle.std.proofs.Common.{◌≡◌, ◌≢◌, ◌∙◌, ℕ, zero, suc, ◌+◌, ◌-◌, ◌/◌, ◌%◌, ◌<◌, ◌≤◌, ◌⊎◌, inl, inr, ap, sym, refl, subst, Bool, true, false, not, cond, List, [], ◌∷◌, length, take, drop, get_or, arith}
use Rattle.std.specs.Prelude.{◌==◌, ◌^◌, count_ones, filter}
use Rattle.std.specs.Int.{bit_at}
use Rattle.std.proofs.lemmas.Bool.{cases_lt, ne_eqb}
use Rattle.std.proofs.lemmas.List.{drop_more}
use Rattle.std.proofs.lemmas.List.FromFn.{take-map-range_with_len}
use Rattle.leak_sparse.specs.declared.group.Group.{Group}
use Rattle.leak_sparse.specs.Groups.{AreGroups, empty, word_at, words_of}
use Rattle.leak_sparse.specs.Words.{kept_from, kept_of}
use Rattle.leak_sparse.proofs.RankLemmas.{bits_of, kept_inside, rank_all, rank_grows, rank_inside, rank_is, rank_of, rank_step, rank_to}
use Rattle.leak_sparse.proofs.ViewLemmas.{by_bit, kept_below, length_is, word_is, word_nonzero, word_set, word_unset}

-- the kept words of two ranks
abbrev pub between : List ℕ → ℕ → ℕ → List ℕ
between kept from to = take (to - from) (drop from kept)

-- those that aren't 0
abbrev nonzero : List ℕ → List ℕ
nonzero words = filter (λ (word : ℕ). not (word == 0)) words

-- ---- one word more

more_zero : (words : List ℕ) (from count : ℕ) → from < length words → get_or words from 0 ≡ 0 → kept_from words from (suc count) ≡ kept_from words (from + 1) count
more_zero words from count inside e =
    ap (λ (ws : List ℕ). nonzero (take (suc count) ws)) (drop_more words from 0 inside)
    ∙ ap (λ (w : ℕ). nonzero (w ∷ take count (drop (from + 1) words))) e

more_kept : (words : List ℕ) (from count word : ℕ) → from < length words → get_or words from 0 ≡ word → word ≢ 0 → kept_from words from (suc count) ≡ word ∷ kept_from words (from + 1) count
more_kept words from count word inside e kept =
    let rest = nonzero (take count (drop (from + 1) words)) in
    let is : not (word == 0) ≡ true = ap not (ne_eqb word 0 kept) in
    ap (λ (ws : List ℕ). nonzero (take (suc count) ws)) (drop_more words from 0 inside)
    ∙ ap (λ (w : ℕ). nonzero (w ∷ take count (drop (from + 1) words))) e
    ∙ ap (λ (b : Bool). cond b (word ∷ rest) rest) is

between_more : (kept : List ℕ) (from to : ℕ) → from < to → from < length kept → between kept from to ≡ get_or kept from 0 ∷ between kept (from + 1) to
between_more kept from to h inside =
    let n : to - from ≡ suc (to - (from + 1)) = omega arith in
    ap (λ (ws : List ℕ). take (to - from) ws) (drop_more kept from 0 inside)
    ∙ ap (λ (k : ℕ). take k (get_or kept from 0 ∷ drop (from + 1) kept)) n

-- ---- the words of a list

module _ (groups : List Group) (kept : List ℕ) (len : ℕ) (are : AreGroups groups kept len) where
  step : (place : ℕ) → rank_to groups (place + 1) ≡ rank_to groups place + bit_at (bits_of groups (place / 64)) (place % 64)
  step place = rank_step groups place (are.narrow (place / 64))

  pub up : (place more : ℕ) → rank_to groups place ≤ rank_to groups (place + more)
  up place more = rank_grows groups are.narrow place more

  inside : (place : ℕ) → place < len → place < length (words_of groups kept len)
  inside place h = omega (arith, h, length_is groups kept len)

  pub range_is : (from count : ℕ) → from + count ≤ len → between kept (rank_to groups from) (rank_to groups (from + count)) ≡ kept_from (words_of groups kept len) from count
  range_is from zero h =
      let z : from + zero ≡ from = omega arith in
      let same : rank_to groups (from + zero) ≡ rank_to groups from = ap (rank_to groups) z in
      let none : rank_to groups (from + zero) - rank_to groups from ≡ 0 = omega (arith, same) in
      ap (λ (n : ℕ). take n (drop (rank_to groups from) kept)) none
  range_is from (suc count) h = go (by_bit (bits_of groups (from / 64)) (from % 64)) (range_is (from + 1) count (omega (arith, h)))
    where
      here : from < len
      here = omega (arith, h)

      at : from + 1 + count ≡ from + suc count
      at = omega arith

      go : (bit_at (bits_of groups (from / 64)) (from % 64) ≡ 0) ⊎ (bit_at (bits_of groups (from / 64)) (from % 64) ≡ 1)
          → between kept (rank_to groups (from + 1)) (rank_to groups (from + 1 + count)) ≡ kept_from (words_of groups kept len) (from + 1) count
          → between kept (rank_to groups from) (rank_to groups (from + suc count)) ≡ kept_from (words_of groups kept len) from (suc count)
      go (inl unset) others =
          let rest = subst (λ (n : ℕ). between kept (rank_to groups (from + 1)) (rank_to groups n) ≡ kept_from (words_of groups kept len) (from + 1) count) at others in
          let same : rank_to groups from ≡ rank_to groups (from + 1) = omega (arith, step from, unset) in
          ap (λ (r : ℕ). between kept r (rank_to groups (from + suc count))) same ∙ rest
          ∙ sym (more_zero (words_of groups kept len) from count (inside from here) (word_is groups kept len from here ∙ word_unset groups kept from unset))
      go (inr set) others =
          let rest = subst (λ (n : ℕ). between kept (rank_to groups (from + 1)) (rank_to groups n) ≡ kept_from (words_of groups kept len) (from + 1) count) at others in
          let one : rank_to groups (from + 1) ≡ rank_to groups from + 1 = omega (arith, step from, set) in
          let later : rank_to groups (from + 1) ≤ rank_to groups (from + suc count) = subst (λ (n : ℕ). rank_to groups (from + 1) ≤ rank_to groups n) at (up (from + 1) count) in
          let rank : rank_of groups from ≡ rank_to groups from = rank_is groups kept len from are (omega (arith, here, are.enough)) in
          let within : rank_of groups from < length kept = rank_inside groups kept len from are set in
          let word : word_at groups kept from ≡ get_or kept (rank_to groups from) 0 = word_set groups kept from set ∙ ap (λ (r : ℕ). get_or kept r 0) rank in
          let kept_word : get_or kept (rank_to groups from) 0 ≢ 0 = λ e. word_nonzero groups kept len from are set (word ∙ e) in
          between_more kept (rank_to groups from) (rank_to groups (from + suc count)) (omega (arith, one, later)) (omega (arith, rank, within))
          ∙ ap (λ (r : ℕ). get_or kept (rank_to groups from) 0 ∷ between kept r (rank_to groups (from + suc count))) (sym one)
          ∙ ap (λ (ws : List ℕ). get_or kept (rank_to groups from) 0 ∷ ws) rest
          ∙ sym (more_kept (words_of groups kept len) from count (get_or kept (rank_to groups from) 0) (inside from here) (word_is groups kept len from here ∙ word) kept_word)

  -- ---- how many are kept before a place

  -- the first words are those of a shorter list
  pub first_words : (place : ℕ) → place ≤ len → take place (words_of groups kept len) ≡ words_of groups kept place
  first_words place h = take-map-range_with_len (word_at groups kept) 0 len place h

  pub rank_counts : (place : ℕ) → place ≤ len → kept_of (take place (words_of groups kept len)) ≡ rank_to groups place
  rank_counts place h = ap kept_of (first_words place h) ∙ kept_below groups kept len are place

  pub at_most : (place : ℕ) → place ≤ len → rank_to groups place ≤ length kept
  at_most place h =
      let e : place + (len - place) ≡ len = omega arith in
      let grows : rank_to groups place ≤ rank_to groups len = subst (λ (n : ℕ). rank_to groups place ≤ rank_to groups n) e (up place (len - place)) in
      omega (arith, grows, rank_all groups kept len are)

  -- a place of a group, and one past the last group
  pub rank_in : (place ones : ℕ) (group : Group) → place / 64 < length groups → group ≡ get_or groups (place / 64) (empty 0)
      → ones ≡ count_ones (group.bits % 2 ^ (place % 64)) → group.before + ones ≡ rank_to groups place
  rank_in place ones group inside is counted =
      ap (λ (n : ℕ). group.before + n) counted ∙ ap (λ (g : Group). g.before + count_ones (g.bits % 2 ^ (place % 64))) is
      ∙ rank_is groups kept len place are inside

  pub rank_past : (place : ℕ) → place ≤ len → length groups ≤ place / 64 → rank_to groups place ≡ length kept
  rank_past place h past =
      let end : place ≡ len = omega (arith, h, past, are.enough) in
      ap (rank_to groups) end ∙ rank_all groups kept len are

-- ---- by the list

module _ (groups : List Group) (kept : List ℕ) (len : ℕ) (now : List ℕ) (are : AreGroups groups kept len) (view : words_of groups kept len ≡ now) where
  pub len_is : length now ≡ len
  len_is = ap length (sym view) ∙ length_is groups kept len

  pub counts : (place : ℕ) → place ≤ length now → kept_of (take place now) ≡ rank_to groups place
  counts place h = ap (λ (ws : List ℕ). kept_of (take place ws)) (sym view) ∙ rank_counts groups kept len are place (omega (arith, h, len_is))

  -- the ranks of both ends
  pub first_rank : (from to : ℕ) → from ≤ to → to ≤ length now → kept_of (take from now) ≤ length kept
  first_rank from to o h =
      let n : from ≤ length now = omega (arith, o, h) in
      omega (arith, counts from n, at_most groups kept len are from (omega (arith, n, len_is)))

  pub last_rank : (from to : ℕ) → from ≤ to → to ≤ length now → kept_of (take to now) ≤ length kept
  last_rank from to o h = omega (arith, counts to h, at_most groups kept len are to (omega (arith, h, len_is)))

  pub ascend : (from to : ℕ) → from ≤ to → to ≤ length now → kept_of (take from now) ≤ kept_of (take to now)
  ascend from to o h =
      let n : from ≤ length now = omega (arith, o, h) in
      let e : from + (to - from) ≡ to = omega (arith, o) in
      let grows = subst (λ (k : ℕ). rank_to groups from ≤ rank_to groups k) e (up groups kept len are from (to - from)) in
      omega (arith, counts from n, counts to h, grows)

  pub are_kept : (from to : ℕ) → from ≤ to → to ≤ length now → between kept (kept_of (take from now)) (kept_of (take to now)) ≡ kept_from now from (to - from)
  are_kept from to o h =
      let n : from ≤ length now = omega (arith, o, h) in
      let e : to ≡ from + (to - from) = omega (arith, o) in
      ap (λ (r : ℕ). between kept r (kept_of (take to now))) (counts from n)
      ∙ ap (λ (r : ℕ). between kept (rank_to groups from) r) (counts to h)
      ∙ ap (λ (k : ℕ). between kept (rank_to groups from) (rank_to groups k)) e
      ∙ range_is groups kept len are from (to - from) (omega (arith, o, h, len_is))
      ∙ ap (λ (ws : List ℕ). kept_from ws from (to - from)) view
