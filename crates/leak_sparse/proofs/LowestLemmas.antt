-- The lowest bit that is set, from a bit on.
use Rattle.std.proofs.Common.{◌≡◌, ℕ, ◌+◌, ◌-◌, ◌/◌, ◌^◌, ◌<◌, ◌≤◌, ◌⊎◌, inl, inr, ap, sym, ◌∙◌, arith}
use Rattle.std.specs.Int.{bit_at, trailing_zeros, w64}
use Rattle.std.proofs.lemmas.Bool.{cases_lt}
use Rattle.std.proofs.lemmas.Nat.{shr_le}
use Rattle.std.proofs.lemmas.Nat.Bits.{bit_at-trailing_zeros, bit_at-zero, bit_at_above}
use Rattle.leak_sparse.specs.Bits.{IsLowestFrom, NoneFrom}
use Rattle.leak_sparse.proofs.BitLemmas.{shifted_bit}

at_shifted : (bits from k : ℕ) → from ≤ k → bit_at bits k ≡ bit_at (bits / 2 ^ from) (k - from)
at_shifted bits from k h =
    let at : from + (k - from) ≡ k = omega arith in
    ap (λ (i : ℕ). bit_at bits i) (sym at) ∙ sym (shifted_bit bits from (k - from))

pub none_set : (bits from : ℕ) → bits / 2 ^ from ≡ 0 → NoneFrom bits from
none_set bits from none = record {
  each = λ k l h. at_shifted bits from k l ∙ ap (λ (n : ℕ). bit_at n (k - from)) none ∙ bit_at-zero (k - from);
}

pub lowest : (bits from : ℕ) → bits < 2 ^ 64 → from < 64 → 0 < bits / 2 ^ from → IsLowestFrom bits from (from + trailing_zeros w64 (bits / 2 ^ from))
lowest bits from fits h some = record {
  at_or_after = omega arith;
  within = within;
  set = set;
  least = λ k l m. at_shifted bits from k l ∙ low.2 (k - from) (omega arith);
}
  where
    low : (trailing_zeros w64 (bits / 2 ^ from) < 64) × (bit_at (bits / 2 ^ from) (trailing_zeros w64 (bits / 2 ^ from)) ≡ 1) × ((i : ℕ) → i < trailing_zeros w64 (bits / 2 ^ from) → bit_at (bits / 2 ^ from) i ≡ 0)
    low = bit_at-trailing_zeros w64 (bits / 2 ^ from) some (omega (arith, fits, shr_le bits from))

    set : bit_at bits (from + trailing_zeros w64 (bits / 2 ^ from)) ≡ 1
    set = sym (shifted_bit bits from (trailing_zeros w64 (bits / 2 ^ from))) ∙ low.1

    within : from + trailing_zeros w64 (bits / 2 ^ from) < 64
    within = go (cases_lt (from + trailing_zeros w64 (bits / 2 ^ from)) 64)
      where
        go : (from + trailing_zeros w64 (bits / 2 ^ from) < 64) ⊎ (64 ≤ from + trailing_zeros w64 (bits / 2 ^ from)) → from + trailing_zeros w64 (bits / 2 ^ from) < 64
        go (inl f) = f
        go (inr f) = absurd (omega (arith, set, bit_at_above bits 64 (from + trailing_zeros w64 (bits / 2 ^ from)) fits f))
