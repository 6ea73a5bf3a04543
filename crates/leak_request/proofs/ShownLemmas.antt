-- Escaped text has no control character.
use Rattle.std.proofs.Common.{rules, arith, ◌≡◌, ◌∙◌, ap, sym, ℕ, ◌+◌, ◌-◌, ◌<◌, ◌≤◌, ◌/◌, ◌%◌, ◌==◌, ◌&&◌, ◌||◌, not, Bool, true, false, suc, zero, List, [], ◌∷◌, ◌++◌, flat_map, decimal, refl, nat_lt}
use Rattle.std.proofs.lemmas.Bool.{cond_both}
use Rattle.std.proofs.lemmas.Nat.{mod_below}
use Rattle.std.proofs.lemmas.List.Folds.{list_all-append}
use Rattle.std.specs.Cmp.Derive.{both_true}
use Rattle.std.specs.Fmt.{digits, digits_onto, digit_glyph}
use Rattle.std.specs.List.{list_all}
use Rattle.leak_request.specs.Escaped.{AreShown, escape_of, escaped, hex_digit, is_control}

abbrev pub shown : ℕ → Bool
shown byte = not (is_control byte)

-- texts one after the other
pub both : (text more : List ℕ) → AreShown text → AreShown more → AreShown (text ++ more)
both text more first second = list_all-append shown text more ∙ both_true first second

-- what is no control character
pub above : (byte : ℕ) → 32 ≤ byte → byte < 127 → shown byte ≡ true
above byte low high = grind arith

digit_shown : (d : ℕ) → d < 16 → shown (digit_glyph false d) ≡ true
digit_shown d small = cond_both (nat_lt d 10) (48 + d) (87 + d) (λ byte. shown byte ≡ true) (λ so. above (48 + d) (omega arith) (omega (arith, small))) (λ so. above (87 + d) (omega arith) (omega (arith, small)))

-- the digits of a number in a base up to 16
digits_shown : (k base n : ℕ) (acc : List ℕ) → 0 < base → base ≤ 16 → AreShown acc → AreShown (digits_onto k base false n acc)
digits_shown zero base n acc some few so = so
digits_shown (suc k) base n acc some few so =
    let small : n % base < base = mod_below n base some in
    let one : AreShown (digit_glyph false (n % base) ∷ acc) = both_true (digit_shown (n % base) (omega (arith, small, few))) so in
    cond_both (n / base == 0) _ _ AreShown (λ last. one) (λ more. digits_shown k base (n / base) (digit_glyph false (n % base) ∷ acc) some few one)

pub decimal_shown : (n : ℕ) → AreShown (decimal n)
decimal_shown n = unfold digits in digits_shown 64 10 n [] (omega arith) (omega arith) refl

pub hexadecimal_shown : (n : ℕ) → AreShown (digits 16 false n)
hexadecimal_shown n = unfold digits in digits_shown 64 16 n [] (omega arith) (omega arith) refl

hex_shown : (d : ℕ) → d < 16 → shown (hex_digit d) ≡ true
hex_shown d small = cond_both (nat_lt d 10) (48 + d) (97 + (d - 10)) (λ byte. shown byte ≡ true) (λ so. above (48 + d) (omega arith) (omega (arith, small))) (λ so. above (97 + (d - 10)) (omega arith) (omega (arith, small)))

-- a byte below 32, and 127, by two digits
control : (byte : ℕ) → is_control byte ≡ true → AreShown (92 ∷ 120 ∷ hex_digit (byte / 16) ∷ hex_digit (byte % 16) ∷ [])
control byte so =
    let small : byte < 256 = grind (arith, so) in
    both_true (hex_shown (byte / 16) (omega (arith, small))) (both_true (hex_shown (byte % 16) (omega arith)) refl)

-- what stands for a byte
escape_shown : (byte : ℕ) → AreShown (escape_of byte)
escape_shown byte =
    cond_both (byte == 92) _ _ AreShown (λ so. refl)
    (λ a. cond_both (byte == 10) _ _ AreShown (λ so. refl)
    (λ b. cond_both (byte == 13) _ _ AreShown (λ so. refl)
    (λ c. cond_both (byte == 9) _ _ AreShown (λ so. refl)
    (λ d. cond_both (is_control byte) _ _ AreShown (λ so. control byte so) (λ so. both_true (ap not so) refl)))))

pub escaped_shown : (text : List ℕ) → AreShown (escaped text)
escaped_shown [] = refl
escaped_shown (byte ∷ text) = both (escape_of byte) (escaped text) (escape_shown byte) (escaped_shown text)
