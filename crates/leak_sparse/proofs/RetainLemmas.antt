-- The list of which only some words stay, by its groups and its kept words.
use Rattle.std.proofs.Common.{◌≡◌, ◌≢◌, ◌∙◌, ℕ, zero, suc, ◌+◌, ◌/◌, ◌%◌, ◌^◌, ◌<◌, ◌≤◌, ◌⊎◌, inl, inr, ap, sym, refl, subst, Bool, true, false, cond, List, [], ◌∷◌, length, get_or, map, take, count_ones, arith}
use Rattle.std.specs.Prelude.{if◌then◌else◌, filter}
use Rattle.std.specs.Int.{bit_at}
use Rattle.std.specs.List.{count_by, range_with_len}
use Rattle.std.proofs.lemmas.Bool.{cases_lt}
use Rattle.std.proofs.lemmas.Nat.Bits.{bit_at-zero}
use Rattle.std.proofs.lemmas.List.{get_or_default, get_or_past, take_all}
use Rattle.std.proofs.lemmas.List.Elements.{All-filter}
use Rattle.std.proofs.lemmas.List.Sums.{length-filter, sum_by-cons, sum_by_more}
use Rattle.std.proofs.lemmas.Simd.{map-map}
use Rattle.leak_sparse.specs.declared.group.Group.{Group}
use Rattle.leak_sparse.specs.Groups.{AreGroups, AreGroupsBetween, empty, kept_in, word_at, words_of}
use Rattle.leak_sparse.specs.Words.{between, is_between}
use Rattle.leak_sparse.proofs.BitLemmas.{ones_of_low, ones_of_none}
use Rattle.leak_sparse.proofs.RankLemmas.{bits_of, kept_inside, kept_more, rank_all, rank_inside, rank_is, rank_of, rank_step, rank_to}
use Rattle.leak_sparse.proofs.ViewLemmas.{by_bit, word_set, word_unset}
use Rattle.leak_sparse.proofs.RetainBitsLemmas.{either, lower}

-- ---- what a filter leaves, by its place

-- one word more in front
past_first : (b : Bool) (x count : ℕ) (rest : List ℕ) → get_or (cond b (x ∷ rest) rest) (cond b 1 0 + count) 0 ≡ get_or rest count 0
past_first true x count rest = let e : 1 + count ≡ suc count = omega arith in ap (λ (n : ℕ). get_or (x ∷ rest) n 0) e
past_first false x count rest = let e : 0 + count ≡ count = omega arith in ap (λ (n : ℕ). get_or rest n 0) e

filtered_at : (p : ℕ → Bool) (xs : List ℕ) (i : ℕ) → i < length xs → p (get_or xs i 0) ≡ true → get_or (filter p xs) (count_by p (take i xs)) 0 ≡ get_or xs i 0
filtered_at p [] i h e = absurd (omega (arith, h))
filtered_at p (x ∷ xs) zero h e = ap (λ (b : Bool). get_or (cond b (x ∷ filter p xs) (filter p xs)) 0 0) e
filtered_at p (x ∷ xs) (suc i) h e =
    ap (λ (n : ℕ). get_or (cond (p x) (x ∷ filter p xs) (filter p xs)) n 0) (sum_by-cons (λ (y : ℕ). cond (p y) 1 0) x (take i xs))
    ∙ past_first (p x) x (count_by p (take i xs)) (filter p xs)
    ∙ filtered_at p xs i (omega (arith, h)) e

known : (b : Bool) → (b ≡ true) ⊎ (b ≡ false)
known true = inl refl
known false = inr refl

rank_zero : (groups : List Group) → rank_to groups 0 ≡ 0
rank_zero groups =
    let e : bits_of groups 0 % 1 ≡ 0 = omega arith in
    let none : count_ones (bits_of groups 0 % 1) ≡ 0 = ap count_ones e ∙ ones_of_none in
    let sum : 0 + count_ones (bits_of groups 0 % 1) ≡ 0 = omega arith in
    sum

-- ---- the list

module _ (low high : ℕ) (groups now : List Group) (kept after : List ℕ) (len : ℕ) (are : AreGroups groups kept len) (left : AreGroupsBetween low high kept groups now) (filtered : after ≡ filter (is_between low high) kept) where
  abbrev stays : ℕ → Bool
  stays place = is_between low high (word_at groups kept place)

  abbrev bit_was : ℕ → ℕ
  bit_was place = bit_at (bits_of groups (place / 64)) (place % 64)

  abbrev bit_now : ℕ → ℕ
  bit_now place = bit_at (bits_of now (place / 64)) (place % 64)

  -- a bit is set if it was, and its word stays
  bit_is : (place : ℕ) → bit_now place ≡ (if stays place then bit_was place else 0)
  bit_is place = go (cases_lt (place / 64) (length groups))
    where
      go : (place / 64 < length groups) ⊎ (length groups ≤ place / 64) → bit_now place ≡ (if stays place then bit_was place else 0)
      go (inl inside) = (left.bits (place / 64) inside).each (place % 64) (omega arith)
      go (inr past) =
          let none : bit_was place ≡ 0 = ap (λ (group : Group). bit_at group.bits (place % 64)) (get_or_past groups (place / 64) (empty 0) past) ∙ bit_at-zero (place % 64) in
          ap (λ (group : Group). bit_at group.bits (place % 64)) (get_or_past now (place / 64) (empty 0) (omega (arith, left.long, past))) ∙ bit_at-zero (place % 64)
          ∙ sym (ap (λ (b : ℕ). if stays place then b else 0) none ∙ either (stays place) 0)

  still_none : (place : ℕ) → bit_was place ≡ 0 → bit_now place ≡ 0
  still_none place unset = bit_is place ∙ ap (λ (b : ℕ). if stays place then b else 0) unset ∙ either (stays place) 0

  -- the bits of a group are a lower number
  bits_lower : (g : ℕ) → bits_of now g ≤ bits_of groups g
  bits_lower g = go (cases_lt g (length groups))
    where
      go : (g < length groups) ⊎ (length groups ≤ g) → bits_of now g ≤ bits_of groups g
      go (inl inside) = lower low high kept (get_or groups g (empty 0)) (bits_of now g) (left.bits g inside) (are.narrow g)
      go (inr past) =
          let none : bits_of now g ≡ 0 = ap (λ (group : Group). group.bits) (get_or_past now g (empty 0) (omega (arith, left.long, past))) in
          omega (arith, none)

  narrow : (g : ℕ) → bits_of now g < 2 ^ 64
  narrow g = omega (arith, bits_lower g, are.narrow g)

  clear : bits_of now (len / 64) < 2 ^ (len % 64)
  clear = omega (arith, bits_lower (len / 64), are.clear)

  -- ---- how many words that stay are before a place

  abbrev count_to : ℕ → ℕ
  count_to rank = count_by (is_between low high) (take rank kept)

  -- a word that was kept
  rank_held : (place : ℕ) → bit_was place ≡ 1 → rank_of groups place ≡ rank_to groups place
  rank_held place set = rank_is groups kept len place are (omega (arith, kept_inside groups kept len place are set, are.enough))

  held : (place : ℕ) → bit_was place ≡ 1 → rank_to groups place < length kept
  held place set = omega (arith, rank_held place set, rank_inside groups kept len place are set)

  word_held : (place : ℕ) → bit_was place ≡ 1 → word_at groups kept place ≡ get_or kept (rank_to groups place) 0
  word_held place set = word_set groups kept place set ∙ ap (λ (n : ℕ). get_or kept n 0) (rank_held place set)

  count_step : (place : ℕ) → count_to (rank_to groups (place + 1)) ≡ count_to (rank_to groups place) + bit_now place
  count_step place = go (by_bit (bits_of groups (place / 64)) (place % 64))
    where
      go : (bit_was place ≡ 0) ⊎ (bit_was place ≡ 1) → count_to (rank_to groups (place + 1)) ≡ count_to (rank_to groups place) + bit_now place
      go (inl unset) =
          let same : rank_to groups (place + 1) ≡ rank_to groups place = omega (arith, rank_step groups place (are.narrow (place / 64)), unset) in
          ap count_to same ∙ omega (arith, still_none place unset)
      go (inr set) =
          let one : rank_to groups (place + 1) ≡ rank_to groups place + 1 = omega (arith, rank_step groups place (are.narrow (place / 64)), set) in
          let bit : bit_now place ≡ cond (is_between low high (get_or kept (rank_to groups place) 0)) 1 0 =
          bit_is place ∙ ap (λ (b : ℕ). if stays place then b else 0) set ∙ ap (λ (w : ℕ). if is_between low high w then 1 else 0) (word_held place set) in
          ap count_to one
          ∙ sum_by_more (λ (word : ℕ). cond (is_between low high word) 1 0) kept (rank_to groups place) 0 (held place set)
          ∙ ap (λ (n : ℕ). count_to (rank_to groups place) + n) (sym bit)

  rank_left : (place : ℕ) → rank_to now place ≡ count_to (rank_to groups place)
  rank_left zero = rank_zero now ∙ sym (ap count_to (rank_zero groups))
  rank_left (suc place) =
      let at : place + 1 ≡ suc place = omega arith in
      subst (λ (n : ℕ). rank_to now n ≡ count_to (rank_to groups n)) at
      (omega (arith, rank_step now place (narrow (place / 64)), rank_left place, count_step place))

  -- ---- the groups are those of the words that stay

  all_ranks : kept_in now ≡ rank_to now len
  all_ranks =
      let ones : count_ones (bits_of now (len / 64) % 2 ^ (len % 64)) ≡ count_ones (bits_of now (len / 64)) = ones_of_low (bits_of now (len / 64)) (len % 64) clear in
      let all : kept_in (take (len / 64 + 1) now) ≡ kept_in now = ap kept_in (take_all (len / 64 + 1) now (omega (arith, left.long, are.spare))) in
      omega (arith, ones, all, kept_more now (len / 64))

  as_many : length after ≡ kept_in now
  as_many =
      ap length filtered ∙ length-filter (is_between low high) kept
      ∙ ap (λ (words : List ℕ). count_by (is_between low high) words) (sym (take_all (rank_to groups len) kept (omega (arith, rank_all groups kept len are))))
      ∙ sym (rank_left len) ∙ sym all_ranks

  some : (k : ℕ) → k < length after → get_or after k 0 ≢ 0
  some k h =
      let all = All-filter (is_between low high) (λ (word : ℕ). word ≢ 0) kept (λ j d l e. are.nonzero j l (get_or_default kept j 0 d l ∙ e)) in
      subst (λ (words : List ℕ). get_or words k 0 ≢ 0) (sym filtered) (all k 0 (omega (arith, ap length filtered, h)))

  pub retained_are : AreGroups now after len
  retained_are = record {
    enough = omega (arith, left.long, are.enough);
    spare = omega (arith, left.long, are.spare);
    narrow = narrow;
    clear = clear;
    before = λ g h. left.before g (omega (arith, left.long, h));
    whole = as_many;
    nonzero = some;
  }

  -- ---- and stand for them

  word_stays : (place : ℕ) → bit_was place ≡ 1 → stays place ≡ true → word_at now after place ≡ word_at groups kept place
  word_stays place set stay =
      let bit : bit_now place ≡ 1 = bit_is place ∙ ap (λ (b : Bool). if b then bit_was place else 0) stay ∙ set in
      let inside : place < len = kept_inside groups kept len place are set in
      let rank : rank_of now place ≡ count_to (rank_to groups place) = rank_is now after len place retained_are (omega (arith, inside, are.enough, left.long)) ∙ rank_left place in
      word_set now after place bit
      ∙ ap (λ (n : ℕ). get_or after n 0) rank
      ∙ ap (λ (words : List ℕ). get_or words (count_to (rank_to groups place)) 0) filtered
      ∙ filtered_at (is_between low high) kept (rank_to groups place) (held place set) (ap (is_between low high) (sym (word_held place set)) ∙ stay)
      ∙ sym (word_held place set)

  word_is_between : (place : ℕ) → between low high (word_at groups kept place) ≡ word_at now after place
  word_is_between place = go (by_bit (bits_of groups (place / 64)) (place % 64)) (known (stays place))
    where
      go : (bit_was place ≡ 0) ⊎ (bit_was place ≡ 1) → (stays place ≡ true) ⊎ (stays place ≡ false) → between low high (word_at groups kept place) ≡ word_at now after place
      go (inl unset) other =
          ap (between low high) (word_unset groups kept place unset) ∙ either (is_between low high 0) 0
          ∙ sym (word_unset now after place (still_none place unset))
      go (inr set) (inl stay) = ap (λ (b : Bool). if b then word_at groups kept place else 0) stay ∙ sym (word_stays place set stay)
      go (inr set) (inr gone) =
          ap (λ (b : Bool). if b then word_at groups kept place else 0) gone
          ∙ sym (word_unset now after place (bit_is place ∙ ap (λ (b : Bool). if b then bit_was place else 0) gone))

  pub retained_words : words_of now after len ≡ map (between low high) (words_of groups kept len)
  retained_words =
      sym (map-map (between low high) (word_at groups kept) (range_with_len 0 len)
      ∙ λ i. map (λ (place : ℕ). word_is_between place i) (range_with_len 0 len))
