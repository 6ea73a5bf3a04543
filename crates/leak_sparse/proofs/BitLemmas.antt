-- The bits of a number, and how many of its lowest bits are set.
use Rattle.std.proofs.Common.{◌≡◌, ◌∙◌, ℕ, zero, suc, ◌+◌, ◌-◌, ◌*◌, ◌/◌, ◌%◌, ◌^◌, ◌<◌, ◌≤◌, ◌⊎◌, inl, inr, ap, subst, bit_and, count_ones, arith}
use Rattle.std.specs.Int.{bit_at}
use Rattle.std.proofs.lemmas.Bool.{cases_lt}
use Rattle.std.proofs.lemmas.Nat.{and_mask, pow-add, mod-pow-add, mod_below, one_shl, ones_cat, ones-le, pow_pos, shr-shr, zero_from_ones}
use Rattle.std.proofs.lemmas.Nat.Bits.{bit_at-lt, bit_at_cat_low, bit_at_cat_high}
use Rattle.std.proofs.Math.Nat.{mod-eq_of_lt, pow-le-pow_right, two-pow-succ, add-mul-mod_self_right}

-- ---- how many bits are set

pub ones_of_none : count_ones 0 ≡ 0
ones_of_none = omega (arith, ones-le 0 0 (omega arith))

ones_of_one : count_ones 1 ≡ 1
ones_of_one = go (cases_lt (count_ones 1) 1)
  where
    go : (count_ones 1 < 1) ⊎ (1 ≤ count_ones 1) → count_ones 1 ≡ 1
    go (inl f) = absurd (omega (arith, zero_from_ones 1 (omega arith)))
    go (inr f) = omega (arith, ones-le 1 1 (omega arith))

ones_of_bit : (x : ℕ) → x < 2 → count_ones x ≡ x
ones_of_bit zero h = ones_of_none
ones_of_bit (suc zero) h = ones_of_one
ones_of_bit (suc (suc x)) h = absurd (omega (arith, h))

-- one bit more
pub ones_step : (bits k : ℕ) → count_ones (bits % 2 ^ (k + 1)) ≡ count_ones (bits % 2 ^ k) + bit_at bits k
ones_step bits k =
    let turned : k + 1 ≡ 1 + k = omega arith in
    let one : count_ones (bits / 2 ^ k % 2 ^ 1) ≡ bit_at bits k = ones_of_bit (bits / 2 ^ k % 2) (bit_at-lt bits k) in
    let two : count_ones (bits / 2 ^ k % 2 ^ 1 * 2 ^ k + bits % 2 ^ k) ≡ count_ones (bits / 2 ^ k % 2 ^ 1) + count_ones (bits % 2 ^ k) = ones_cat k (bits / 2 ^ k % 2 ^ 1) (bits % 2 ^ k) (mod_below bits (2 ^ k) (pow_pos k)) in
    ap (λ (n : ℕ). count_ones (bits % 2 ^ n)) turned ∙ ap count_ones (mod-pow-add bits 1 k) ∙ omega (arith, one, two)

pub ones_of_low : (bits k : ℕ) → bits < 2 ^ k → count_ones (bits % 2 ^ k) ≡ count_ones bits
ones_of_low bits k h = ap count_ones (mod-eq_of_lt h)

-- ---- one bit more is set

with_bit : (bits k : ℕ) → bits + 2 ^ k ≡ 1 * 2 ^ k + bits
with_bit bits k = omega arith

pub bit_here : (bits k : ℕ) → bits < 2 ^ k → bit_at (bits + 2 ^ k) k ≡ 1
bit_here bits k low =
    let none : k - k ≡ 0 = omega arith in
    ap (λ (n : ℕ). bit_at n k) (with_bit bits k) ∙ bit_at_cat_high 1 k bits k low (omega arith) ∙ ap (λ (i : ℕ). bit_at 1 i) none

pub bit_below : (bits k i : ℕ) → i < k → bit_at (bits + 2 ^ k) i ≡ bit_at bits i
bit_below bits k i h = ap (λ (n : ℕ). bit_at n i) (with_bit bits k) ∙ bit_at_cat_low 1 k bits i h

pub low_below : (bits k i : ℕ) → i ≤ k → (bits + 2 ^ k) % 2 ^ i ≡ bits % 2 ^ i
low_below bits k i h =
    let at : k - i + i ≡ k = omega arith in
    subst (λ (j : ℕ). (bits + 2 ^ j) % 2 ^ i ≡ bits % 2 ^ i) at
    (ap (λ (n : ℕ). (bits + n) % 2 ^ i) (pow-add 2 (k - i) i) ∙ add-mul-mod_self_right bits (2 ^ (k - i)) (2 ^ i))

pub ones_with_bit : (bits k : ℕ) → bits < 2 ^ k → count_ones (bits + 2 ^ k) ≡ count_ones bits + 1
ones_with_bit bits k low =
    let one : count_ones 1 ≡ 1 = ones_of_one in
    let two : count_ones (1 * 2 ^ k + bits) ≡ count_ones 1 + count_ones bits = ones_cat k 1 bits low in
    ap count_ones (with_bit bits k) ∙ omega (arith, one, two)

pub below_next : (bits k : ℕ) → bits < 2 ^ k → bits + 2 ^ k < 2 ^ (k + 1)
below_next bits k low =
    let double : 2 ^ suc k ≡ 2 ^ k + 2 ^ k = two-pow-succ k in
    let at : suc k ≡ k + 1 = omega arith in
    subst (λ (j : ℕ). bits + 2 ^ k < 2 ^ j) at (omega arith)

pub grows : (bits k m : ℕ) → bits < 2 ^ k → k ≤ m → bits < 2 ^ m
grows bits k m low h = let more : 2 ^ k ≤ 2 ^ m = pow-le-pow_right {n = 2} (omega arith) h in omega arith

-- ---- what the code computes

pub masked : (bits k : ℕ) → k < 64 → bit_and bits (1 * 2 ^ k % 2 ^ 64 - 1) ≡ bits % 2 ^ k
masked bits k h = ap (λ (n : ℕ). bit_and bits (n - 1)) (one_shl k 64 h) ∙ and_mask bits k

pub shifted_bit : (bits k i : ℕ) → bit_at (bits / 2 ^ k) i ≡ bit_at bits (k + i)
shifted_bit bits k i = ap (λ (n : ℕ). n % 2) (shr-shr bits k i)
