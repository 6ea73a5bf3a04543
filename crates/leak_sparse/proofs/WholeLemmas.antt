-- A whole group of words that are pushed at once.
use Rattle.std.proofs.Common.{◌≡◌, ◌≢◌, ◌∙◌, ℕ, zero, suc, ◌+◌, ◌/◌, ◌%◌, ◌^◌, ◌<◌, ◌⊎◌, inl, inr, ap, sym, refl, Bool, true, false, not, List, [], ◌∷◌, ◌++◌, get_or, map, take, count_ones, arith}
use Rattle.std.specs.Prelude.{◌==◌, if◌then◌else◌}
use Rattle.std.specs.Int.{bit_at}
use Rattle.std.proofs.lemmas.Bool.{cases_eq, ne_eqb}
use Rattle.std.proofs.lemmas.List.FromFn.{fill_by_all, length-map-range_with_len, get_or-map-range_with_len}
use Rattle.std.proofs.lemmas.List.Sums.{sum_by-cons}
use Rattle.leak_sparse.specs.declared.group.Group.{Group}
use Rattle.leak_sparse.specs.Groups.{AreGroups, empty, kept_in, moved, word_at, word_in, words_of}
use Rattle.leak_sparse.specs.Pushed.{AreNonzeroBits, ArePushed, group_of, word_of}
use Rattle.leak_sparse.proofs.RetainBitsLemmas.{either}
use Rattle.leak_sparse.proofs.ViewLemmas.{by_bit, in_set, in_unset, length_is, word_is}
use Rattle.leak_sparse.proofs.PushedLemmas.{is_some}

-- the group alone
abbrev pub alone : ℕ → List Group
alone bits = record { bits = bits; before = 0 } ∷ []

-- ---- of the bits, those of words that aren't 0

module _ (bits : ℕ) (words : List (List ℕ)) (nonzero : ℕ) (are : AreNonzeroBits bits words nonzero) where
  pub nonzero_twice : AreNonzeroBits nonzero words nonzero
  nonzero_twice = record { narrow = are.narrow; each = λ k h. go (is_some words k) (bit_at nonzero k) (bit_at bits k) (are.each k h) }
    where
      go : (b : Bool) (n m : ℕ) → n ≡ (if b then m else 0) → n ≡ (if b then n else 0)
      go true n m e = refl
      go false n m e = e

  word_same : (k : ℕ) → k < 64 → (if bit_at nonzero k == 1 then word_of words k else 0) ≡ (if bit_at bits k == 1 then word_of words k else 0)
  word_same k h = go (cases_eq (word_of words k) 0)
    where
      go : (word_of words k ≡ 0) ⊎ (word_of words k ≢ 0) → (if bit_at nonzero k == 1 then word_of words k else 0) ≡ (if bit_at bits k == 1 then word_of words k else 0)
      go (inl none) =
          ap (λ (w : ℕ). if bit_at nonzero k == 1 then w else 0) none ∙ either (bit_at nonzero k == 1) 0
          ∙ sym (ap (λ (w : ℕ). if bit_at bits k == 1 then w else 0) none ∙ either (bit_at bits k == 1) 0)
      go (inr some) = ap (λ (b : ℕ). if b == 1 then word_of words k else 0) (are.each k h ∙ ap (λ (b : Bool). if not b then bit_at bits k else 0) (ne_eqb (word_of words k) 0 some))

  pub same_group : group_of nonzero words ≡ group_of bits words
  same_group =
      fill_by_all (λ k. if bit_at bits k == 1 then word_of words k else 0) (group_of nonzero words) 64 0 (length-map-range_with_len (λ k. if bit_at nonzero k == 1 then word_of words k else 0) 0 64)
      (λ k h. get_or-map-range_with_len (λ k. if bit_at nonzero k == 1 then word_of words k else 0) 0 64 k k 0 h (omega arith) ∙ word_same k h)

-- ---- the group and its words

module _ (bits : ℕ) (words : List (List ℕ)) (before now : List ℕ) (narrow : bits < 2 ^ 64) (pushed : ArePushed bits words before now) where
  bits_alone : (g : ℕ) → (get_or (alone bits) g (empty 0)).bits < 2 ^ 64
  bits_alone zero = narrow
  bits_alone (suc g) = omega arith

  before_alone : (g : ℕ) → g < 1 → (get_or (alone bits) g (empty 0)).before ≡ kept_in (take g (alone bits))
  before_alone zero h = refl
  before_alone (suc g) h = absurd (omega (arith, h))

  kept_alone : kept_in (alone bits) ≡ count_ones bits
  kept_alone = sum_by-cons (λ (group : Group). count_ones group.bits) (record { bits = bits; before = 0 }) [] ∙ omega arith

  pub alone_are : AreGroups (alone bits) pushed.more 64
  alone_are = record {
    enough = omega arith;
    spare = omega arith;
    narrow = bits_alone;
    clear = omega arith;
    before = before_alone;
    whole = pushed.count ∙ sym kept_alone;
    nonzero = pushed.nonzero;
  }

  word_alone : (k : ℕ) → k < 64 → word_in (record { bits = bits; before = 0 }) pushed.more k ≡ (if bit_at bits k == 1 then word_of words k else 0)
  word_alone k h = go (by_bit bits k)
    where
      go : (bit_at bits k ≡ 0) ⊎ (bit_at bits k ≡ 1) → word_in (record { bits = bits; before = 0 }) pushed.more k ≡ (if bit_at bits k == 1 then word_of words k else 0)
      go (inl unset) = in_unset (record { bits = bits; before = 0 }) pushed.more k unset ∙ sym (ap (λ (b : ℕ). if b == 1 then word_of words k else 0) unset)
      go (inr set) =
          let rank : 0 + count_ones (bits % 2 ^ k) ≡ count_ones (bits % 2 ^ k) = omega arith in
          in_set (record { bits = bits; before = 0 }) pushed.more k set ∙ ap (λ (n : ℕ). get_or pushed.more n 0) rank ∙ pushed.each k h set
          ∙ sym (ap (λ (b : ℕ). if b == 1 then word_of words k else 0) set)

  at_alone : (k : ℕ) → k < 64 → word_at (alone bits) pushed.more k ≡ (if bit_at bits k == 1 then word_of words k else 0)
  at_alone k h =
      let first : k / 64 ≡ 0 = omega (arith, h) in
      let bit : k % 64 ≡ k = omega (arith, h) in
      ap (λ (g : ℕ). word_in (get_or (alone bits) g (empty 0)) pushed.more (k % 64)) first
      ∙ ap (λ (j : ℕ). word_in (record { bits = bits; before = 0 }) pushed.more j) bit ∙ word_alone k h

  pub alone_words : words_of (alone bits) pushed.more 64 ≡ group_of bits words
  alone_words =
      fill_by_all (λ k. if bit_at bits k == 1 then word_of words k else 0) (words_of (alone bits) pushed.more 64) 64 0 (length_is (alone bits) pushed.more 64)
      (λ k h. word_is (alone bits) pushed.more 64 k h ∙ at_alone k h)

-- behind the groups so far
pub is_behind : (cut now : List Group) (bits before : ℕ) → now ≡ cut ++ record { bits = bits; before = before } ∷ [] → now ≡ cut ++ map (moved before) (alone bits)
is_behind cut now bits before is =
    let none : before ≡ before + 0 = omega arith in
    is ∙ ap (λ (n : ℕ). cut ++ record { bits = bits; before = n } ∷ []) none
