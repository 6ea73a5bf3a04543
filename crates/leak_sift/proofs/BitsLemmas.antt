-- Bits of flagged numbers.
use Rattle.std.proofs.Common.{◌≡◌, ◌≢◌, ◌∙◌, ℕ, zero, suc, ◌+◌, ◌-◌, ◌*◌, ◌/◌, ◌%◌, ◌^◌, ◌<◌, ◌≤◌, ◌⊎◌, inl, inr, ap, sym, refl, subst, Bool, true, false, not, ◌||◌, max, bit_or, arith}
use Rattle.std.specs.Prelude.{◌==◌, if◌then◌else◌}
use Rattle.std.specs.Int.{bit_at}
use Rattle.std.specs.List.{list_any}
use Rattle.std.proofs.lemmas.Bool.{cases_eq, cases_lt, ne_eqb}
use Rattle.std.proofs.lemmas.Nat.{one_shl, or_lt, pow_pos, shr_le, shr-shr}
use Rattle.std.proofs.lemmas.Nat.Bits.{bit_at-zero, bit_at-pow_same, bit_at-pow_other, bit_at_above, bit_at_cat_low, bit_at_cat_high, bit_at_or}
use Rattle.std.proofs.Math.Nat.{two-pow-succ}
use Rattle.std.proofs.Math.Pow.{pow-lt}
use Rattle.std.proofs.Common.{eq-eqb}
use mir.Val.{bool_byte}
use Rattle.leak_sift.specs.Grouped.{AreBits}
use Rattle.leak_sift.specs.Kept.{distances}

-- the bit of a flag
abbrev pub bit : Bool → ℕ
bit flag = if flag then 1 else 0

-- no bit
pub no_bits : (flag : ℕ → Bool) (count : ℕ) → ((k : ℕ) → k < count → flag k ≡ false) → 0 < 2 ^ count → AreBits flag count 0
no_bits flag count none some = record { narrow = some; each = λ k h. bit_at-zero k ∙ sym (ap bit (none k h)) }

-- the same flags
pub same_bits : (flag other : ℕ → Bool) (count bits : ℕ) → ((k : ℕ) → k < count → flag k ≡ other k) → AreBits flag count bits → AreBits other count bits
same_bits flag other count bits same are = record { narrow = are.narrow; each = λ k h. are.each k h ∙ ap bit (same k h) }

-- the lowest bits
low64 : (x k : ℕ) → k < 64 → bit_at (x % 2 ^ 64) k ≡ bit_at x k
low64 x k h =
    let whole : x / 2 ^ 64 * 2 ^ 64 + x % 2 ^ 64 ≡ x = omega arith in
    sym (bit_at_cat_low (x / 2 ^ 64) 64 (x % 2 ^ 64) k h) ∙ ap (λ (n : ℕ). bit_at n k) whole

-- ---- either flag

max_bit : (a b : Bool) → max (bit a) (bit b) ≡ bit (a || b)
max_bit true true = refl
max_bit true false = refl
max_bit false true = refl
max_bit false false = refl

pub either_bits : (flag other : ℕ → Bool) (count a b : ℕ) → AreBits flag count a → AreBits other count b → AreBits (λ k. flag k || other k) count (bit_or a b)
either_bits flag other count a b are others = record {
  narrow = or_lt count a b are.narrow others.narrow;
  each = λ k h. bit_at_or a b k ∙ ap (λ (n : ℕ). max n (bit_at b k)) (are.each k h) ∙ ap (λ (n : ℕ). max (bit (flag k)) n) (others.each k h) ∙ max_bit (flag k) (other k);
}

-- ---- one flag more, before the others

bit_small : (b : Bool) → bit b < 2
bit_small true = omega arith
bit_small false = omega arith

pub bits_before : (flag : ℕ → Bool) (count bits now : ℕ) → AreBits (λ k. flag (k + 1)) count bits → now ≡ 2 * bits + bit (flag 0) → AreBits flag (count + 1) now
bits_before flag count bits now are is = record {
  narrow = narrow;
  each = λ k h. ap (λ (n : ℕ). bit_at n k) whole ∙ go k h;
}
  where
    whole : now ≡ bits * 2 ^ 1 + bit (flag 0)
    whole = omega (arith, is)

    narrow : now < 2 ^ (count + 1)
    narrow =
        let double : 2 ^ suc count ≡ 2 ^ count + 2 ^ count = two-pow-succ count in
        let at : suc count ≡ count + 1 = omega arith in
        subst (λ (n : ℕ). now < 2 ^ n) at (omega (arith, is, are.narrow, bit_small (flag 0)))

    go : (k : ℕ) → k < count + 1 → bit_at (bits * 2 ^ 1 + bit (flag 0)) k ≡ bit (flag k)
    go zero h = bit_at_cat_low bits 1 (bit (flag 0)) 0 (omega arith) ∙ first (flag 0)
      where
        first : (b : Bool) → bit_at (bit b) 0 ≡ bit b
        first true = refl
        first false = refl
    go (suc k) h =
        let one : suc k - 1 ≡ k = omega arith in
        let at : k + 1 ≡ suc k = omega arith in
        bit_at_cat_high bits 1 (bit (flag 0)) (suc k) (bit_small (flag 0)) (omega arith) ∙ ap (bit_at bits) one ∙ are.each k (omega (arith, h)) ∙ ap (λ (n : ℕ). bit (flag n)) at

-- what the code computes: 1, less one where the flag isn't set
pub counted_bit : (b : Bool) (n bits : ℕ) → n ≡ bool_byte (not b) → 2 * bits + 1 - n ≡ 2 * bits + bit b
counted_bit true n bits is = let none : n ≡ 0 = is in omega (arith, none)
counted_bit false n bits is = let one : n ≡ 1 = is in omega (arith, one)

pub counted_fits : (b : Bool) (n : ℕ) → n ≡ bool_byte b → n ≤ 1
counted_fits true n is = let one : n ≡ 1 = is in omega (arith, one)
counted_fits false n is = let none : n ≡ 0 = is in omega (arith, none)

-- ---- flags behind flags

pub bits_behind : (flag : ℕ → Bool) (low high : ℕ) → AreBits flag 32 low → AreBits (λ k. flag (32 + k)) 32 high → AreBits flag 64 (high * 2 ^ 32 + low)
bits_behind flag low high are others = record { narrow = omega (arith, are.narrow, others.narrow); each = λ k h. go k h (cases_lt k 32) }
  where
    go : (k : ℕ) → k < 64 → (k < 32) ⊎ (32 ≤ k) → bit_at (high * 2 ^ 32 + low) k ≡ bit (flag k)
    go k h (inl first) = bit_at_cat_low high 32 low k first ∙ are.each k first
    go k h (inr past) =
        let at : 32 + (k - 32) ≡ k = omega (arith, past) in
        bit_at_cat_high high 32 low k are.narrow past ∙ others.each (k - 32) (omega (arith, h)) ∙ ap (λ (n : ℕ). bit (flag n)) at

-- ---- one flag

pub one_bit : (flag : ℕ → Bool) (j : ℕ) → j < 64 → flag j ≡ true → ((k : ℕ) → k ≢ j → flag k ≡ false) → AreBits flag 64 (1 * 2 ^ j % 2 ^ 64)
one_bit flag j h here others = subst (AreBits flag 64) (sym (one_shl j 64 h)) (record {
  narrow = pow-lt h;
  each = λ k l. go k (cases_eq k j);
})
  where
    go : (k : ℕ) → (k ≡ j) ⊎ (k ≢ j) → bit_at (2 ^ j) k ≡ bit (flag k)
    go k (inl e) = ap (bit_at (2 ^ j)) e ∙ bit_at-pow_same j ∙ sym (ap (λ (n : ℕ). bit (flag n)) e ∙ ap bit here)
    go k (inr n) = bit_at-pow_other j k n ∙ sym (ap bit (others k n))

-- ---- the distances behind an end at which words are asked for

abbrev pub asked : Bool → ℕ
asked links = if links then 23 else 21

pub asked_at : Bool → ℕ → Bool
asked_at links m = list_any (λ d. 8 * m == d) (distances links)

far : (links : Bool) (m : ℕ) → 5 ≤ m → list_any (λ d. 8 * m == d) (distances links) ≡ false
far true m h = rw (ne_eqb (8 * m) 0 (λ e. omega (arith, e, h)), ne_eqb (8 * m) 8 (λ e. omega (arith, e, h)), ne_eqb (8 * m) 16 (λ e. omega (arith, e, h)), ne_eqb (8 * m) 32 (λ e. omega (arith, e, h))) refl
far false m h = rw (ne_eqb (8 * m) 0 (λ e. omega (arith, e, h)), ne_eqb (8 * m) 16 (λ e. omega (arith, e, h)), ne_eqb (8 * m) 32 (λ e. omega (arith, e, h))) refl

asked_small : (links : Bool) → asked links < 2 ^ 5
asked_small true = omega arith
asked_small false = omega arith

pub asked_bit : (links : Bool) (m : ℕ) → bit_at (asked links) m ≡ bit (list_any (λ d. 8 * m == d) (distances links))
asked_bit true zero = refl
asked_bit true (suc zero) = refl
asked_bit true (suc (suc zero)) = refl
asked_bit true (suc (suc (suc zero))) = refl
asked_bit true (suc (suc (suc (suc zero)))) = refl
asked_bit true (suc (suc (suc (suc (suc m))))) = bit_at_above (asked true) 5 (suc (suc (suc (suc (suc m))))) (asked_small true) (omega arith) ∙ sym (ap bit (far true (suc (suc (suc (suc (suc m))))) (omega arith)))
asked_bit false zero = refl
asked_bit false (suc zero) = refl
asked_bit false (suc (suc zero)) = refl
asked_bit false (suc (suc (suc zero))) = refl
asked_bit false (suc (suc (suc (suc zero)))) = refl
asked_bit false (suc (suc (suc (suc (suc m))))) = bit_at_above (asked false) 5 (suc (suc (suc (suc (suc m))))) (asked_small false) (omega arith) ∙ sym (ap bit (far false (suc (suc (suc (suc (suc m))))) (omega arith)))

-- the same distance from an end
eq_moved : (end a b : ℕ) → (end + a == end + b) ≡ (a == b)
eq_moved end a b = go (cases_eq a b)
  where
    go : (a ≡ b) ⊎ (a ≢ b) → (end + a == end + b) ≡ (a == b)
    go (inl e) = eq-eqb (end + a) (end + b) (ap (λ (n : ℕ). end + n) e) ∙ sym (eq-eqb a b e)
    go (inr n) = ne_eqb (end + a) (end + b) (λ e. n (omega (arith, e))) ∙ sym (ne_eqb a b n)

any_moved : (links : Bool) (end a : ℕ) → list_any (λ d. end + a == end + d) (distances links) ≡ list_any (λ d. a == d) (distances links)
any_moved true end a = rw (eq_moved end a 0, eq_moved end a 8, eq_moved end a 16, eq_moved end a 32) refl
any_moved false end a = rw (eq_moved end a 0, eq_moved end a 16, eq_moved end a 32) refl

pub any_at : (links : Bool) (end place m : ℕ) → place ≡ end + 8 * m → list_any (λ d. place == end + d) (distances links) ≡ list_any (λ d. 8 * m == d) (distances links)
any_at links end place m at = ap (λ (p : ℕ). list_any (λ d. p == end + d) (distances links)) at ∙ any_moved links end (8 * m)

pub none_at : (links : Bool) (end place : ℕ) → ((d : ℕ) → d ≤ 32 → d % 8 ≡ 0 → place ≢ end + d) → list_any (λ d. place == end + d) (distances links) ≡ false
none_at true end place h = rw (ne_eqb place (end + 0) (h 0 (omega arith) refl), ne_eqb place (end + 8) (h 8 (omega arith) refl), ne_eqb place (end + 16) (h 16 (omega arith) refl), ne_eqb place (end + 32) (h 32 (omega arith) refl)) refl
none_at false end place h = rw (ne_eqb place (end + 0) (h 0 (omega arith) refl), ne_eqb place (end + 16) (h 16 (omega arith) refl), ne_eqb place (end + 32) (h 32 (omega arith) refl)) refl

-- from the place on, the end is so many words behind it
module _ (links : Bool) (end place : ℕ) where
  abbrev flag : ℕ → Bool
  flag k = list_any (λ d. place + 8 * k == end + d) (distances links)

  pub ahead_bits : (j : ℕ) → end ≡ place + 8 * j → j < 64 → AreBits flag 64 (asked links * 2 ^ j % 2 ^ 64)
  ahead_bits j at h = record { narrow = omega arith; each = λ k l. low64 (asked links * 2 ^ j) k l ∙ go k (cases_lt k j) }
    where
      go : (k : ℕ) → (k < j) ⊎ (j ≤ k) → bit_at (asked links * 2 ^ j) k ≡ bit (flag k)
      go k (inl before) =
          let whole : asked links * 2 ^ j ≡ asked links * 2 ^ j + 0 = omega arith in
          ap (λ (n : ℕ). bit_at n k) whole ∙ bit_at_cat_low (asked links) j 0 k before ∙ bit_at-zero k
          ∙ sym (ap bit (none_at links end (place + 8 * k) (λ d l m e. omega (arith, at, before, e))))
      go k (inr past) =
          let whole : asked links * 2 ^ j ≡ asked links * 2 ^ j + 0 = omega arith in
          let there : place + 8 * k ≡ end + 8 * (k - j) = omega (arith, at, past) in
          ap (λ (n : ℕ). bit_at n k) whole ∙ bit_at_cat_high (asked links) j 0 k (pow_pos j) past
          ∙ asked_bit links (k - j) ∙ sym (ap bit (any_at links end (place + 8 * k) (k - j) there))

  -- or the place is so many words behind the end
  pub passed_bits : (j : ℕ) → place ≡ end + 8 * j → AreBits flag 64 (asked links / 2 ^ j)
  passed_bits j at = record {
    narrow = omega (arith, shr_le (asked links) j, asked_small links);
    each = λ k h.
        let there : place + 8 * k ≡ end + 8 * (j + k) = omega (arith, at) in
        ap (λ (n : ℕ). n % 2) (shr-shr (asked links) j k) ∙ asked_bit links (j + k) ∙ sym (ap bit (any_at links end (place + 8 * k) (j + k) there));
  }
