-- The bits of words that aren't 0, and the words that are pushed, bit by bit.
use Rattle.std.proofs.Common.{◌≡◌, ◌≢◌, ◌∙◌, ℕ, ◌+◌, ◌-◌, ◌*◌, ◌%◌, ◌^◌, ◌<◌, ◌≤◌, ◌⊎◌, inl, inr, ap, sym, refl, subst, Bool, true, false, not, List, [], ◌∷◌, ◌++◌, length, get_or, count_ones, arith}
use Rattle.std.specs.Prelude.{◌==◌, if◌then◌else◌}
use Rattle.std.specs.Int.{bit_at, w64, from_le_bytes}
use Rattle.std.proofs.lemmas.Bool.{cases_lt}
use Rattle.std.proofs.lemmas.Nat.{one_shl}
use Rattle.std.proofs.lemmas.Nat.Bits.{bit_at_above}
use Rattle.std.proofs.lemmas.List.{append-nil, append_assoc, get_or_append_left, get_or_default, get_or-append_right, length-append}
use mir.Val.{bool_byte}
use Rattle.leak_sparse.specs.Bits.{IsLowestFrom, NoneFrom}
use Rattle.leak_sparse.specs.Pushed.{AreNonzeroBits, ArePushed, word_of}
use Rattle.leak_sparse.proofs.BitLemmas.{below_next, bit_below, bit_here, grows, ones_of_low, ones_of_none, ones_step}
use Rattle.leak_sparse.proofs.RetainBitsLemmas.{either, ones_next, ones_part, ones_skip, ones_up}

-- ---- the bits so far of words that aren't 0

abbrev pub is_some : List (List ℕ) → ℕ → Bool
is_some words k = not (word_of words k == 0)

pub record AreNonzeroTo (bits : ℕ) (words : List (List ℕ)) (nonzero from : ℕ) : Type 0 where
  pub below : nonzero < 2 ^ from
  pub each : (k : ℕ) → k < from → bit_at nonzero k ≡ (if is_some words k then bit_at bits k else 0)

module _ (bits : ℕ) (words : List (List ℕ)) where
  pub nonzero_none : AreNonzeroTo bits words 0 0
  nonzero_none = record { below = omega arith; each = λ k h. absurd (omega (arith, h)) }

  -- past bits that aren't set
  pub nonzero_skip : (nonzero from bit : ℕ) → AreNonzeroTo bits words nonzero from → from ≤ bit → ((k : ℕ) → from ≤ k → k < bit → bit_at bits k ≡ 0) → AreNonzeroTo bits words nonzero bit
  nonzero_skip nonzero from bit to h none = record { below = grows nonzero from bit to.below h; each = λ k l. go k l (cases_lt k from) }
    where
      go : (k : ℕ) → k < bit → (k < from) ⊎ (from ≤ k) → bit_at nonzero k ≡ (if is_some words k then bit_at bits k else 0)
      go k l (inl before) = to.each k before
      go k l (inr at) =
          bit_at_above nonzero from k to.below at
          ∙ sym (ap (λ (b : ℕ). if is_some words k then b else 0) (none k at l) ∙ either (is_some words k) 0)

  nonzero_out : (nonzero bit : ℕ) → AreNonzeroTo bits words nonzero bit → is_some words bit ≡ false → AreNonzeroTo bits words nonzero (bit + 1)
  nonzero_out nonzero bit to out = record { below = grows nonzero bit (bit + 1) to.below (omega arith); each = λ k l. go k l (cases_lt k bit) }
    where
      go : (k : ℕ) → k < bit + 1 → (k < bit) ⊎ (bit ≤ k) → bit_at nonzero k ≡ (if is_some words k then bit_at bits k else 0)
      go k l (inl before) = to.each k before
      go k l (inr at) =
          let same : bit ≡ k = omega arith in
          subst (λ (j : ℕ). bit_at nonzero j ≡ (if is_some words j then bit_at bits j else 0)) same
          (bit_at_above nonzero bit bit to.below (omega arith) ∙ sym (ap (λ (b : Bool). if b then bit_at bits bit else 0) out))

  nonzero_in : (nonzero bit : ℕ) → AreNonzeroTo bits words nonzero bit → bit_at bits bit ≡ 1 → is_some words bit ≡ true → AreNonzeroTo bits words (nonzero + 2 ^ bit) (bit + 1)
  nonzero_in nonzero bit to set some = record { below = below_next nonzero bit to.below; each = λ k l. go k l (cases_lt k bit) }
    where
      go : (k : ℕ) → k < bit + 1 → (k < bit) ⊎ (bit ≤ k) → bit_at (nonzero + 2 ^ bit) k ≡ (if is_some words k then bit_at bits k else 0)
      go k l (inl before) = bit_below nonzero bit k before ∙ to.each k before
      go k l (inr at) =
          let same : bit ≡ k = omega arith in
          subst (λ (j : ℕ). bit_at (nonzero + 2 ^ bit) j ≡ (if is_some words j then bit_at bits j else 0)) same
          (bit_here nonzero bit to.below ∙ sym set ∙ sym (ap (λ (b : Bool). if b then bit_at bits bit else 0) some))

  pub nonzero_all : (nonzero from : ℕ) → AreNonzeroTo bits words nonzero from → 64 ≤ from → from ≤ 64 → AreNonzeroBits bits words nonzero
  nonzero_all nonzero from to past within =
      let end : from ≡ 64 = omega arith in
      let all = subst (λ (k : ℕ). AreNonzeroTo bits words nonzero k) end to in
      record { narrow = all.below; each = all.each }

module _ (bits : ℕ) (words : List (List ℕ)) (nonzero from bit : ℕ) (lowest : IsLowestFrom bits from bit) (to : AreNonzeroTo bits words nonzero from) where
  reached : AreNonzeroTo bits words nonzero bit
  reached = nonzero_skip bits words nonzero from bit to lowest.at_or_after lowest.least

  pub nonzero_after : (b : Bool) (n : ℕ) → b ≡ is_some words bit → n ≡ bool_byte b → AreNonzeroTo bits words (nonzero + n * 2 ^ bit % 2 ^ 64) (bit + 1)
  nonzero_after true n e is =
      subst (λ (m : ℕ). AreNonzeroTo bits words (nonzero + m * 2 ^ bit % 2 ^ 64) (bit + 1)) (sym is)
      (subst (λ (m : ℕ). AreNonzeroTo bits words (nonzero + m) (bit + 1)) (sym (one_shl bit 64 lowest.within))
      (nonzero_in bits words nonzero bit reached lowest.set (sym e)))
  nonzero_after false n e is =
      let same : nonzero ≡ nonzero + 0 * 2 ^ bit % 2 ^ 64 = omega arith in
      subst (λ (m : ℕ). AreNonzeroTo bits words (nonzero + m * 2 ^ bit % 2 ^ 64) (bit + 1)) (sym is)
      (subst (λ (m : ℕ). AreNonzeroTo bits words m (bit + 1)) same (nonzero_out bits words nonzero bit reached (sym e)))

  pub nonzero_fits : (b : Bool) (n : ℕ) → b ≡ is_some words bit → n ≡ bool_byte b → nonzero + n * 2 ^ bit % 2 ^ 64 < 2 ^ 64
  nonzero_fits b n e is = grows (nonzero + n * 2 ^ bit % 2 ^ 64) (bit + 1) 64 (nonzero_after b n e is).below (omega (arith, lowest.within))

-- ---- the words pushed so far

pub record ArePushedTo (bits : ℕ) (words : List (List ℕ)) (before now : List ℕ) (from : ℕ) : Type 0 where
  pub more : List ℕ
  pub behind : now ≡ before ++ more
  pub count : length more ≡ count_ones (bits % 2 ^ from)
  pub each : (k : ℕ) → k < from → bit_at bits k ≡ 1 → get_or more (count_ones (bits % 2 ^ k)) 0 ≡ word_of words k
  pub nonzero : (k : ℕ) → k < length more → get_or more k 0 ≢ 0

module _ (bits : ℕ) (words : List (List ℕ)) (before : List ℕ) where
  pub pushed_none : ArePushedTo bits words before before 0
  pushed_none =
      let e : bits % 1 ≡ 0 = omega arith in
      let none : count_ones (bits % 1) ≡ 0 = ap count_ones e ∙ ones_of_none in
      record { more = []; behind = sym (append-nil before); count = sym none; each = λ k h. absurd (omega (arith, h)); nonzero = λ k h. absurd (omega (arith, h)) }

  pub pushed_skip : (now : List ℕ) (from bit : ℕ) → ArePushedTo bits words before now from → ((k : ℕ) → from ≤ k → k < bit → bit_at bits k ≡ 0) → count_ones (bits % 2 ^ bit) ≡ count_ones (bits % 2 ^ from) → ArePushedTo bits words before now bit
  pushed_skip now from bit to none same = record {
    more = to.more;
    behind = to.behind;
    count = to.count ∙ sym same;
    each = λ k h set. go k h set (cases_lt k from);
    nonzero = to.nonzero;
  }
    where
      go : (k : ℕ) → k < bit → bit_at bits k ≡ 1 → (k < from) ⊎ (from ≤ k) → get_or to.more (count_ones (bits % 2 ^ k)) 0 ≡ word_of words k
      go k h set (inl low) = to.each k low set
      go k h set (inr at) = absurd (omega (arith, none k at h, set))

  -- a lower bit that is set has a lower rank
  lower_rank : (k bit : ℕ) → k < bit → bit_at bits k ≡ 1 → count_ones (bits % 2 ^ k) < count_ones (bits % 2 ^ bit)
  lower_rank k bit h set =
      let at : k + 1 + (bit - (k + 1)) ≡ bit = omega (arith, h) in
      let up = subst (λ (n : ℕ). count_ones (bits % 2 ^ (k + 1)) ≤ count_ones (bits % 2 ^ n)) at (ones_up bits (k + 1) (bit - (k + 1))) in
      omega (arith, up, ones_step bits k, set)

  pub pushed_one : (now after : List ℕ) (bit word : ℕ) → ArePushedTo bits words before now bit → bit_at bits bit ≡ 1 → word ≡ word_of words bit → word ≢ 0 → after ≡ now ++ word ∷ [] → ArePushedTo bits words before after (bit + 1)
  pushed_one now after bit word to set is some e = record {
    more = to.more ++ word ∷ [];
    behind = e ∙ ap (λ (l : List ℕ). l ++ word ∷ []) to.behind ∙ append_assoc before to.more (word ∷ []);
    count = omega (arith, long, to.count, ones_step bits bit, set);
    each = λ k h s. each k h s (cases_lt k bit);
    nonzero = λ k h. nonzero k (omega (arith, long, h)) (cases_lt k (length to.more));
  }
    where
      long : length (to.more ++ word ∷ []) ≡ length to.more + 1
      long = length-append to.more (word ∷ [])

      last : (k : ℕ) → k ≡ length to.more → get_or (to.more ++ word ∷ []) k 0 ≡ word
      last k at =
          let none : k - length to.more ≡ 0 = omega (arith, at) in
          get_or-append_right to.more (word ∷ []) (length to.more) k 0 refl (omega (arith, at)) ∙ ap (λ (n : ℕ). get_or (word ∷ []) n 0) none

      each : (k : ℕ) → k < bit + 1 → bit_at bits k ≡ 1 → (k < bit) ⊎ (bit ≤ k) → get_or (to.more ++ word ∷ []) (count_ones (bits % 2 ^ k)) 0 ≡ word_of words k
      each k h s (inl low) = get_or_append_left to.more (word ∷ []) 0 (count_ones (bits % 2 ^ k)) (omega (arith, to.count, lower_rank k bit low s)) ∙ to.each k low s
      each k h s (inr at) =
          let same : bit ≡ k = omega (arith, h, at) in
          subst (λ (j : ℕ). get_or (to.more ++ word ∷ []) (count_ones (bits % 2 ^ j)) 0 ≡ word_of words j) same (last (count_ones (bits % 2 ^ bit)) (sym to.count) ∙ is)

      nonzero : (k : ℕ) → k < length to.more + 1 → (k < length to.more) ⊎ (length to.more ≤ k) → get_or (to.more ++ word ∷ []) k 0 ≢ 0
      nonzero k h (inl inside) none = to.nonzero k inside (sym (get_or_append_left to.more (word ∷ []) 0 k inside) ∙ none)
      nonzero k h (inr end) none = some (sym (last k (omega (arith, h, end))) ∙ none)

  pub pushed_all : (now : List ℕ) (from : ℕ) → bits < 2 ^ 64 → ArePushedTo bits words before now from → 64 ≤ from → from ≤ 64 → ArePushed bits words before now
  pushed_all now from narrow to past within =
      let end : from ≡ 64 = omega (arith, past, within) in
      let all = subst (λ (k : ℕ). ArePushedTo bits words before now k) end to in
      record { more = all.more; behind = all.behind; count = all.count ∙ ones_of_low bits 64 narrow; each = all.each; nonzero = all.nonzero }

-- a bit that is set among those of words that aren't 0
pub some_word : (bits : ℕ) (words : List (List ℕ)) (k : ℕ) → AreNonzeroBits bits words bits → k < 64 → bit_at bits k ≡ 1 → word_of words k ≢ 0
some_word bits words k are h set none =
    let zero_bit : bit_at bits k ≡ 0 = are.each k h ∙ ap (λ (w : ℕ). if not (w == 0) then bit_at bits k else 0) none in
    omega (arith, zero_bit, set)

-- there is room for the next
pub rank_below : (bits from bit : ℕ) → bits < 2 ^ 64 → IsLowestFrom bits from bit → count_ones (bits % 2 ^ from) < count_ones bits
rank_below bits from bit narrow lowest =
    omega (arith, ones_next bits from bit lowest, ones_step bits bit, lowest.set, ones_part bits (bit + 1) (omega (arith, lowest.within)) narrow)

-- the word that is read
pub read_word : (words : List (List ℕ)) (k : ℕ) (d : List ℕ) (word : ℕ) → word ≡ from_le_bytes w64 (get_or words k d) → k < length words → word ≡ word_of words k
read_word words k d word is inside = is ∙ ap (from_le_bytes w64) (get_or_default words k d [] inside)

-- no bit is set behind those that were passed
pub past_pushed : (bits : ℕ) (words : List (List ℕ)) (before now : List ℕ) (from : ℕ) → ArePushedTo bits words before now from → from ≤ 64 → NoneFrom bits from → ArePushedTo bits words before now 64
past_pushed bits words before now from to within none =
    let at : from + (64 - from) ≡ 64 = omega (arith, within) in
    let same = subst (λ (n : ℕ). count_ones (bits % 2 ^ n) ≡ count_ones (bits % 2 ^ from)) at (ones_skip bits from (64 - from) (λ k l h. none.each k l (omega (arith, at, h)))) in
    pushed_skip bits words before now from 64 to none.each same
