-- Which of 64 places are near a block, block by block.
use Rattle.std.proofs.Common.{◌≡◌, ◌∙◌, ℕ, zero, suc, ◌+◌, ◌-◌, ◌*◌, ◌^◌, ◌<◌, ◌≤◌, ◌⊎◌, inl, inr, Bool, true, false, List, length, bit_or, max, ap, refl, sym, subst, arith}
use Rattle.std.specs.Int.{bit_at}
use Rattle.std.proofs.lemmas.Nat.{or_lt}
use Rattle.std.proofs.lemmas.Nat.Bits.{bit_at-lt, bit_at-zero, bit_at_or}
use Rattle.leak_blocks.specs.declared.block.Block.{Block}
use Rattle.leak_blocks.specs.Span.{AreDisjoint}
use Rattle.leak_index.specs.Ranks.{none}
use Rattle.leak_index.proofs.Near.{either, ends_before}
use Rattle.leak_sift.specs.Grouped.{AreBits, AreOff}
use Rattle.leak_sift.specs.Kept.{is_near, is_near_block}
use Rattle.leak_sift.proofs.BitsLemmas.{bit}
use Rattle.leak_sift.proofs.NearLemmas.{ahead, at, far_behind, none_near, one_near, rising}

one_max : (n : ℕ) → n < 2 → max 1 n ≡ 1
one_max zero h = refl
one_max (suc zero) h = refl
one_max (suc (suc n)) h = absurd (omega (arith, h))

-- by the first so many blocks
pub record AreNearTo (blocks : List Block) (links : Bool) (place bits next : ℕ) : Type 0 where
  pub narrow : bits < 2 ^ 64
  pub each : (k : ℕ) → k < 64 → ((bit_at bits k ≡ 1) × (is_near blocks links (place + 8 * k) ≡ true))
      ⊎ ((bit_at bits k ≡ 0) × ((j : ℕ) → j < next → is_near_block links (place + 8 * k) (at blocks j) ≡ false))

module _ (blocks : List Block) (links : Bool) (place : ℕ) where
  pub near_start : (first : ℕ) → AreOff blocks links place first → AreNearTo blocks links place 0 first
  near_start first off = record { narrow = omega arith; each = λ k h. inr (bit_at-zero k, (λ j l. off.each j (place + 8 * k) l (omega arith))) }

  pub near_step : (bits more next : ℕ) → AreNearTo blocks links place bits next → next < length blocks → AreBits (λ k. is_near_block links (place + 8 * k) (at blocks next)) 64 more → AreNearTo blocks links place (bit_or bits more) (next + 1)
  near_step bits more next so_far inside are = record {
    narrow = or_lt 64 bits more so_far.narrow are.narrow;
    each = λ k h. go k (so_far.each k h) (are.each k h) (is_near_block links (place + 8 * k) (at blocks next)) refl;
  }
    where
      go : (k : ℕ) → ((bit_at bits k ≡ 1) × (is_near blocks links (place + 8 * k) ≡ true)) ⊎ ((bit_at bits k ≡ 0) × ((j : ℕ) → j < next → is_near_block links (place + 8 * k) (at blocks j) ≡ false))
          → bit_at more k ≡ bit (is_near_block links (place + 8 * k) (at blocks next)) → (here : Bool) → is_near_block links (place + 8 * k) (at blocks next) ≡ here
          → ((bit_at (bit_or bits more) k ≡ 1) × (is_near blocks links (place + 8 * k) ≡ true)) ⊎ ((bit_at (bit_or bits more) k ≡ 0) × ((j : ℕ) → j < next + 1 → is_near_block links (place + 8 * k) (at blocks j) ≡ false))
      go k (inl near) is here e = inl (bit_at_or bits more k ∙ ap (λ (n : ℕ). max n (bit_at more k)) near.0 ∙ one_max (bit_at more k) (bit_at-lt more k), near.1)
      go k (inr far) is true e =
          inl (bit_at_or bits more k ∙ ap (λ (n : ℕ). max n (bit_at more k)) far.0 ∙ ap (λ (n : ℕ). max 0 n) (is ∙ ap bit e), sym (one_near blocks links (place + 8 * k) next inside e))
      go k (inr far) is false e =
          inr (
            bit_at_or bits more k ∙ ap (λ (n : ℕ). max n (bit_at more k)) far.0 ∙ ap (λ (n : ℕ). max 0 n) (is ∙ ap bit e),
            (λ j l. either j next (is_near_block links (place + 8 * k) (at blocks j) ≡ false)
                (λ before. far.1 j before)
                (λ last. let same : next ≡ j = omega (arith, l, last) in subst (λ (i : ℕ). is_near_block links (place + 8 * k) (at blocks i) ≡ false) same e)),
          )

  pub near_end : (bits next : ℕ) → AreDisjoint blocks → AreNearTo blocks links place bits next → (next < length blocks → place + 512 ≤ (at blocks next).start - 8) → AreBits (λ k. is_near blocks links (place + 8 * k)) 64 bits
  near_end bits next apart so_far past = record { narrow = so_far.narrow; each = λ k h. go k h (so_far.each k h) }
    where
      go : (k : ℕ) → k < 64 → ((bit_at bits k ≡ 1) × (is_near blocks links (place + 8 * k) ≡ true)) ⊎ ((bit_at bits k ≡ 0) × ((j : ℕ) → j < next → is_near_block links (place + 8 * k) (at blocks j) ≡ false))
          → bit_at bits k ≡ bit (is_near blocks links (place + 8 * k))
      go k h (inl near) = near.0 ∙ sym (ap bit near.1)
      go k h (inr far) = far.0 ∙ ap bit (none_near blocks links (place + 8 * k) (record {
        each = λ j z l. either j next (is_near_block links (place + 8 * k) (at blocks j) ≡ false)
            (λ before. far.1 j before)
            (λ after. let up = rising blocks apart next j none after l in ahead links (place + 8 * k) (at blocks j) (omega (arith, up, past (omega (arith, after, l)), h)));
      }))

-- far behind the start of a block, each before it is off
pub off_before : (blocks : List Block) (links : Bool) (place left : ℕ) → AreDisjoint blocks → left < length blocks → (at blocks left).start + 56 ≤ place → AreOff blocks links place left
off_before blocks links place left apart inside behind = record {
  each = λ k later h l. far_behind links later (at blocks k) (at blocks left) (ends_before blocks k left none apart h inside) (omega (arith, behind, l));
}
