-- The words that stay, which are moved to the front.
use Rattle.std.proofs.Common.{◌≡◌, ◌∙◌, ℕ, ◌+◌, ◌%◌, ◌*◌, ◌^◌, ◌<◌, ◌≤◌, ap, sym, refl, subst, Bool, true, false, cond, List, [], ◌∷◌, ◌++◌, length, get_or, set, take, count_ones, arith}
use Rattle.std.specs.Prelude.{filter}
use Rattle.std.proofs.lemmas.Nat.{one_shl}
use Rattle.std.proofs.lemmas.List.{append-nil, get_or-set_other, length-set, take-set, take_all, take_more_set}
use Rattle.std.proofs.lemmas.List.Elements.{filter_more}
use mir.Val.{bool_byte}
use Rattle.leak_sparse.specs.Groups.{AreMoved}
use Rattle.leak_sparse.specs.Words.{is_between}
use Rattle.leak_sparse.proofs.BitLemmas.{below_next, grows, ones_with_bit}

pub byte_le : (b : Bool) → bool_byte b ≤ 1
byte_le true = omega arith
byte_le false = omega arith

module _ (low high : ℕ) (kept : List ℕ) where
  pub moved_none : AreMoved low high kept kept 0 0
  moved_none = record { within = omega arith; long = refl; front_words = refl; rest = λ k h. refl }

  -- a word that goes too is written, and then written over
  front_next : (b : Bool) (now : List ℕ) (front word : ℕ) → front < length now
      → take (front + bool_byte b) (set now front word) ≡ take front now ++ cond b (word ∷ []) []
  front_next true now front word h = take_more_set now front word h
  front_next false now front word h =
      let at : front + 0 ≡ front = omega arith in
      ap (λ (n : ℕ). take n (set now front word)) at ∙ take-set now front word ∙ sym (append-nil (take front now))

  pub moved_next : (now : List ℕ) (front rank word : ℕ) (b : Bool) (n : ℕ) → AreMoved low high kept now front rank → rank < length now → word ≡ get_or now rank 0 → b ≡ is_between low high word → n ≡ bool_byte b
      → AreMoved low high kept (set now front word) (front + n) (rank + 1)
  moved_next now front rank word b n are h read tested is = record {
    within = omega (arith, is, byte_le b, are.within);
    long = length-set now front word ∙ are.long;
    front_words =
        ap (λ (m : ℕ). take (front + m) (set now front word)) is
        ∙ front_next b now front word (omega (arith, are.within, h))
        ∙ ap (λ (ws : List ℕ). ws ++ cond b (word ∷ []) []) are.front_words
        ∙ ap (λ (c : Bool). filter (is_between low high) (take rank kept) ++ cond c (word ∷ []) []) tested
        ∙ ap (λ (w : ℕ). filter (is_between low high) (take rank kept) ++ cond (is_between low high w) (w ∷ []) []) same
        ∙ sym (filter_more (is_between low high) kept rank 0 (omega (arith, h, are.long)));
    rest = λ k l. get_or-set_other now front k word 0 (λ e. absurd (omega (arith, e, l, are.within))) ∙ are.rest k (omega (arith, l));
  }
    where
      same : word ≡ get_or kept rank 0
      same = read ∙ are.rest rank (omega arith)

  -- all words
  pub moved_all : (now : List ℕ) (front rank : ℕ) → AreMoved low high kept now front rank → length kept ≤ rank → take front now ≡ filter (is_between low high) kept
  moved_all now front rank are past = are.front_words ∙ ap (filter (is_between low high)) (take_all rank kept past)

-- ---- the bit of a word that stays, or none

pub byte_bit : (bits bit : ℕ) (b : Bool) (n : ℕ) → n ≡ bool_byte b → bit < 64 → bits < 2 ^ bit → bits + n * 2 ^ bit % 2 ^ 64 < 2 ^ (bit + 1)
byte_bit bits bit true n is h low =
    subst (λ (m : ℕ). bits + m * 2 ^ bit % 2 ^ 64 < 2 ^ (bit + 1)) (sym is)
    (subst (λ (m : ℕ). bits + m < 2 ^ (bit + 1)) (sym (one_shl bit 64 h)) (below_next bits bit low))
byte_bit bits bit false n is h low =
    let same : bits ≡ bits + 0 * 2 ^ bit % 2 ^ 64 = omega arith in
    subst (λ (m : ℕ). bits + m * 2 ^ bit % 2 ^ 64 < 2 ^ (bit + 1)) (sym is)
    (subst (λ (m : ℕ). m < 2 ^ (bit + 1)) same (grows bits bit (bit + 1) low (omega arith)))

pub byte_counts : (bits bit : ℕ) (b : Bool) (n : ℕ) → n ≡ bool_byte b → bit < 64 → bits < 2 ^ bit → count_ones (bits + n * 2 ^ bit % 2 ^ 64) ≡ count_ones bits + n
byte_counts bits bit true n is h low =
    subst (λ (m : ℕ). count_ones (bits + m * 2 ^ bit % 2 ^ 64) ≡ count_ones bits + m) (sym is)
    (ap (λ (m : ℕ). count_ones (bits + m)) (one_shl bit 64 h) ∙ ones_with_bit bits bit low)
byte_counts bits bit false n is h low =
    let same : bits + 0 * 2 ^ bit % 2 ^ 64 ≡ bits = omega arith in
    subst (λ (m : ℕ). count_ones (bits + m * 2 ^ bit % 2 ^ 64) ≡ count_ones bits + m) (sym is)
    (ap count_ones same ∙ omega arith)
