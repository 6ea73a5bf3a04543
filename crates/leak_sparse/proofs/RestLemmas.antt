-- The bits that are left, where the lowest is cleared each time.
use Rattle.std.proofs.Common.{◌≡◌, ◌∙◌, ℕ, suc, ◌+◌, ◌-◌, ◌*◌, ◌/◌, ◌%◌, ◌^◌, ◌<◌, ◌≤◌, ◌⊎◌, inl, inr, ap, sym, refl, subst, bit_and, count_ones, arith}
use Rattle.std.specs.Int.{bit_at, trailing_zeros, w64}
use Rattle.std.proofs.lemmas.Bool.{cases_lt}
use Rattle.std.proofs.lemmas.Nat.{and_block, and_le_l, and_mask, mod-pow-add, pow_pos, shr_split, zero_from_ones}
use Rattle.std.specs.Int.Bits.{and_self}
use Rattle.std.proofs.Math.Nat.{mod_self, two-pow-succ}
use Rattle.std.proofs.lemmas.Nat.Bits.{bit_at-trailing_zeros, bit_at-zero, bit_at_cat_high, bit_at_cat_low}
use Rattle.leak_sparse.specs.Bits.{IsLowestFrom, NoneFrom}
use Rattle.leak_sparse.proofs.BitLemmas.{ones_of_low, ones_of_none, shifted_bit}
use Rattle.leak_sparse.proofs.RetainBitsLemmas.{ones_skip}

-- those from this one on
pub record AreRest (bits rest from : ℕ) : Type 0 where
  pub within : from ≤ 64
  pub narrow : rest < 2 ^ 64
  pub passed : (k : ℕ) → k < from → bit_at rest k ≡ 0
  pub ahead : (k : ℕ) → from ≤ k → bit_at rest k ≡ bit_at bits k

pub rest_all : (bits : ℕ) → bits < 2 ^ 64 → AreRest bits bits 0
rest_all bits narrow = record { within = omega arith; narrow = narrow; passed = λ k h. absurd (omega (arith, h)); ahead = λ k h. refl }

pub rest_none : (bits rest from : ℕ) → AreRest bits rest from → rest ≡ 0 → NoneFrom bits from
rest_none bits rest from are none = record { each = λ k h l. sym (are.ahead k h) ∙ ap (λ (n : ℕ). bit_at n k) none ∙ bit_at-zero k }

pub rest_lowest : (bits rest from : ℕ) → AreRest bits rest from → 0 < rest → IsLowestFrom bits from (trailing_zeros w64 rest)
rest_lowest bits rest from are some = record {
  at_or_after = go (cases_lt (trailing_zeros w64 rest) from);
  within = low.0;
  set = sym (are.ahead (trailing_zeros w64 rest) (go (cases_lt (trailing_zeros w64 rest) from))) ∙ low.1;
  least = λ k h l. sym (are.ahead k h) ∙ low.2 k l;
}
  where
    low : (trailing_zeros w64 rest < 64) × (bit_at rest (trailing_zeros w64 rest) ≡ 1) × ((i : ℕ) → i < trailing_zeros w64 rest → bit_at rest i ≡ 0)
    low = bit_at-trailing_zeros w64 rest some are.narrow

    go : (trailing_zeros w64 rest < from) ⊎ (from ≤ trailing_zeros w64 rest) → from ≤ trailing_zeros w64 rest
    go (inl before) = absurd (omega (arith, are.passed (trailing_zeros w64 rest) before, low.1))
    go (inr at) = at

-- so all that are set were passed
pub rest_passed : (bits rest from : ℕ) → AreRest bits rest from → rest ≡ 0 → bits < 2 ^ 64 → count_ones (bits % 2 ^ from) ≡ count_ones bits
rest_passed bits rest from are none narrow =
    let at : from + (64 - from) ≡ 64 = omega (arith, are.within) in
    let same = subst (λ (n : ℕ). count_ones (bits % 2 ^ n) ≡ count_ones (bits % 2 ^ from)) at
    (ones_skip bits from (64 - from) (λ k h l. (rest_none bits rest from are none).each k h (omega (arith, at, l)))) in
    sym same ∙ ones_of_low bits 64 narrow

-- ---- the lowest is cleared

-- below the lowest the number has nothing
nothing_below : (rest low : ℕ) → ((k : ℕ) → k < low → bit_at rest k ≡ 0) → rest % 2 ^ low ≡ 0
nothing_below rest low none =
    let e : rest % 2 ^ 0 ≡ 0 = omega arith in
    let first : count_ones (rest % 2 ^ 0) ≡ 0 = ap count_ones e ∙ ones_of_none in
    let at : 0 + low ≡ low = omega arith in
    let same = subst (λ (n : ℕ). count_ones (rest % 2 ^ n) ≡ count_ones (rest % 2 ^ 0)) at (ones_skip rest 0 low (λ k l h. none k (omega (arith, h)))) in
    zero_from_ones (rest % 2 ^ low) (same ∙ first)

module _ (rest low : ℕ) (set : bit_at rest low ≡ 1) (none : (k : ℕ) → k < low → bit_at rest k ≡ 0) where
  abbrev high : ℕ
  high = rest / 2 ^ (low + 1)

  whole : rest ≡ high * 2 ^ (low + 1) + 2 ^ low
  whole =
      let at : 1 + low ≡ low + 1 = omega arith in
      let split : rest % 2 ^ (low + 1) ≡ bit_at rest low * 2 ^ low + rest % 2 ^ low =
      subst (λ (n : ℕ). rest % 2 ^ n ≡ bit_at rest low * 2 ^ low + rest % 2 ^ low) at (mod-pow-add rest 1 low) in
      let one : bit_at rest low * 2 ^ low ≡ 1 * 2 ^ low = ap (λ (b : ℕ). b * 2 ^ low) set in
      let low_part : rest % 2 ^ (low + 1) ≡ 2 ^ low = omega (arith, split, one, nothing_below rest low none) in
      sym (shr_split rest (low + 1)) ∙ ap (λ (n : ℕ). high * 2 ^ (low + 1) + n) low_part

  cleared : bit_and rest (rest - 1) ≡ high * 2 ^ (low + 1) + 0
  cleared =
      let some : 0 < 2 ^ low = pow_pos low in
      let at : suc low ≡ low + 1 = omega arith in
      let double : 2 ^ (low + 1) ≡ 2 ^ low + 2 ^ low = subst (λ (n : ℕ). 2 ^ n ≡ 2 ^ low + 2 ^ low) at (two-pow-succ low) in
      let less : rest - 1 ≡ high * 2 ^ (low + 1) + (2 ^ low - 1) = omega (arith, whole, some) in
      let self : 2 ^ low % 2 ^ low ≡ 0 = mod_self (2 ^ low) in
      ap (λ (n : ℕ). bit_and n (rest - 1)) whole
      ∙ ap (λ (n : ℕ). bit_and (high * 2 ^ (low + 1) + 2 ^ low) n) less
      ∙ and_block (low + 1) high high (2 ^ low) (2 ^ low - 1) (omega (arith, some, double)) (omega (arith, some, double))
      ∙ ap (λ (n : ℕ). n * 2 ^ (low + 1) + bit_and (2 ^ low) (2 ^ low - 1)) (and_self high)
      ∙ ap (λ (n : ℕ). high * 2 ^ (low + 1) + n) (and_mask (2 ^ low) low ∙ self)

  cleared_to : (k : ℕ) → k < low + 1 → bit_at (bit_and rest (rest - 1)) k ≡ 0
  cleared_to k h = ap (λ (n : ℕ). bit_at n k) cleared ∙ bit_at_cat_low high (low + 1) 0 k h ∙ bit_at-zero k

  same_above : (k : ℕ) → low + 1 ≤ k → bit_at (bit_and rest (rest - 1)) k ≡ bit_at rest k
  same_above k h =
      let at : low + 1 + (k - (low + 1)) ≡ k = omega (arith, h) in
      ap (λ (n : ℕ). bit_at n k) cleared ∙ bit_at_cat_high high (low + 1) 0 k (pow_pos (low + 1)) h ∙ shifted_bit rest (low + 1) (k - (low + 1)) ∙ ap (bit_at rest) at

pub rest_next : (bits rest from : ℕ) → AreRest bits rest from → 0 < rest → AreRest bits (bit_and rest (rest - 1)) (trailing_zeros w64 rest + 1)
rest_next bits rest from are some = record {
  within = omega (arith, low.within);
  narrow = omega (arith, are.narrow, and_le_l rest (rest - 1));
  passed = cleared_to rest (trailing_zeros w64 rest) set none;
  ahead = λ k h. same_above rest (trailing_zeros w64 rest) set none k h ∙ are.ahead k (omega (arith, h, low.at_or_after));
}
  where
    low : IsLowestFrom bits from (trailing_zeros w64 rest)
    low = rest_lowest bits rest from are some

    set : bit_at rest (trailing_zeros w64 rest) ≡ 1
    set = are.ahead (trailing_zeros w64 rest) low.at_or_after ∙ low.set

    none : (k : ℕ) → k < trailing_zeros w64 rest → bit_at rest k ≡ 0
    none k h = go (cases_lt k from)
      where
        go : (k < from) ⊎ (from ≤ k) → bit_at rest k ≡ 0
        go (inl before) = are.passed k before
        go (inr at) = are.ahead k at ∙ low.least k at h
