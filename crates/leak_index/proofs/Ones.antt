-- How many bits of a number are set, and among its lowest ones.
use Rattle.std.proofs.Common.{◌≡◌, ◌∙◌, ℕ, suc, ◌+◌, ◌*◌, ◌/◌, ◌%◌, ◌^◌, ◌<◌, ◌≤◌, ap, sym, subst, count_ones, arith}
use Rattle.std.proofs.lemmas.Nat.{ones_cat, ones-le, zero_from_ones, shl-shr, shr_split, mod-pow-add, pow_pos, pow-add, mod_below}
use Rattle.std.proofs.Math.Nat.{mul-mod_left, mod-eq_of_lt, pow-le-pow_right, two-pow-succ, add-mul-mod_self_right}
use Rattle.leak_index.proofs.Near.{either}

pub ones_of_none : count_ones 0 ≡ 0
ones_of_none = omega (arith, ones-le 0 0 (omega arith))

sum_is : (x a b c : ℕ) → x ≡ a + b → a ≡ c → b ≡ 0 → x ≡ c
sum_is x a b c e f g = omega arith

-- to shift the lowest bits to the top drops the others
pub ones_shifted : (bits m k : ℕ) → count_ones (bits * 2 ^ k % 2 ^ (m + k)) ≡ count_ones (bits % 2 ^ m)
ones_shifted bits m k =
    sum_is _ (count_ones (bits * 2 ^ k / 2 ^ k % 2 ^ m)) (count_ones (bits * 2 ^ k % 2 ^ k)) _
    (ap count_ones (mod-pow-add (bits * 2 ^ k) m k) ∙ ones_cat k (bits * 2 ^ k / 2 ^ k % 2 ^ m) (bits * 2 ^ k % 2 ^ k) (mod_below (bits * 2 ^ k) (2 ^ k) (pow_pos k)))
    (ap (λ (n : ℕ). count_ones (n % 2 ^ m)) (shl-shr bits k))
    (ap count_ones (mul-mod_left bits (2 ^ k)) ∙ ones_of_none)

from_none : (q p r b : ℕ) → q ≡ 0 → q * p + r ≡ b → r < p → b < p
from_none q p r b none split low = let e : 0 * p + r ≡ b = subst (λ (n : ℕ). n * p + r ≡ b) none split in omega arith

-- if all set bits are among the g lowest, the number has no more
pub all_low : (bits g : ℕ) → count_ones bits ≤ count_ones (bits % 2 ^ g) → bits < 2 ^ g
all_low bits g h =
    let whole : count_ones bits ≡ count_ones (bits / 2 ^ g) + count_ones (bits % 2 ^ g) = ap count_ones (sym (shr_split bits g)) ∙ ones_cat g (bits / 2 ^ g) (bits % 2 ^ g) (mod_below bits (2 ^ g) (pow_pos g)) in
    from_none (bits / 2 ^ g) (2 ^ g) (bits % 2 ^ g) bits (zero_from_ones (bits / 2 ^ g) (omega arith)) (shr_split bits g) (mod_below bits (2 ^ g) (pow_pos g))

-- a bit that is set leaves the lower ones as they are
pub set_above : (bits g j : ℕ) → (bits + 2 ^ (j + g)) % 2 ^ g ≡ bits % 2 ^ g
set_above bits g j = ap (λ (n : ℕ). (bits + n) % 2 ^ g) (pow-add 2 j g) ∙ add-mul-mod_self_right bits (2 ^ j) (2 ^ g)

ones_of_one : count_ones 1 ≡ 1
ones_of_one = either (count_ones 1) 1 (count_ones 1 ≡ 1) (λ f. absurd (omega (arith, zero_from_ones 1 (omega arith)))) (λ f. omega (arith, ones-le 1 1 (omega arith)))

-- and is one more among those up to it
pub set_below : (bits g m : ℕ) → bits < 2 ^ g → g < m → count_ones ((bits + 2 ^ g) % 2 ^ m) ≡ count_ones bits + 1
set_below bits g m low h =
    let least : suc g ≤ m = omega arith in
    let double : 2 ^ suc g ≡ 2 ^ g + 2 ^ g = two-pow-succ g in
    let room : 2 ^ suc g ≤ 2 ^ m = pow-le-pow_right {n = 2} (omega arith) least in
    let small : bits + 2 ^ g < 2 ^ m = omega arith in
    let turned : bits + 2 ^ g ≡ 1 * 2 ^ g + bits = omega arith in
    let one : count_ones 1 ≡ 1 = ones_of_one in
    let two : count_ones (1 * 2 ^ g + bits) ≡ count_ones 1 + count_ones bits = ones_cat g 1 bits low in
    ap count_ones (mod-eq_of_lt small) ∙ ap count_ones turned ∙ omega arith

-- a bit that is set is one more than those below it
pub ones_set : (bits g : ℕ) → bits / 2 ^ g % 2 ≡ 1 → count_ones (bits % 2 ^ (g + 1)) ≡ count_ones (bits % 2 ^ g) + 1
ones_set bits g h =
    let turned : g + 1 ≡ 1 + g = omega arith in
    let one : count_ones (bits / 2 ^ g % 2 ^ 1) ≡ 1 = ap count_ones h ∙ ones_of_one in
    let two : count_ones (bits / 2 ^ g % 2 ^ 1 * 2 ^ g + bits % 2 ^ g) ≡ count_ones (bits / 2 ^ g % 2 ^ 1) + count_ones (bits % 2 ^ g) = ones_cat g (bits / 2 ^ g % 2 ^ 1) (bits % 2 ^ g) (mod_below bits (2 ^ g) (pow_pos g)) in
    ap (λ (n : ℕ). count_ones (bits % 2 ^ n)) turned ∙ ap count_ones (mod-pow-add bits 1 g) ∙ omega (arith, one, two)
