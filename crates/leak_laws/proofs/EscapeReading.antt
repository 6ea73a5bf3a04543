-- Escaped text is read back byte by byte.
use Rattle.std.proofs.Common.{◌≡◌, ◌∙◌, ap, sym, refl, ℕ, ◌+◌, ◌-◌, ◌*◌, ◌<◌, ◌/◌, ◌%◌, ◌==◌, Bool, cond, List, [], ◌∷◌, ◌++◌, length, nat_lt, arith}
use Rattle.std.proofs.lemmas.Bool.{cond_both, eqb-true, le-ltb, lt-ltb, ltb-false, ltb-true}
use Rattle.std.proofs.lemmas.Nat.{div-add-mod'}
use Rattle.leak_request.specs.Escaped.{escape_of, escaped, hex_digit, is_control}
use Rattle.leak_laws.specs.EscapedTexts.{EscapedReadsBack}

digit_of : ℕ → ℕ
digit_of glyph = cond (nat_lt glyph 58) (glyph - 48) (glyph - 87)

read_hexadecimal : List ℕ → ℕ × List ℕ
read_hexadecimal [] = (0, [])
read_hexadecimal (high ∷ []) = (0, [])
read_hexadecimal (high ∷ low ∷ rest) = (digit_of high * 16 + digit_of low, rest)

read_escape : List ℕ → ℕ × List ℕ
read_escape [] = (0, [])
read_escape (c ∷ rest) = cond (c == 92) (92, rest) (cond (c == 110) (10, rest) (cond (c == 114) (13, rest) (cond (c == 116) (9, rest) (read_hexadecimal rest))))

-- the first byte of what was escaped, and what comes after that which stands for it
read : List ℕ → ℕ × List ℕ
read [] = (0, [])
read (c ∷ rest) = cond (c == 92) (read_escape rest) (c, rest)

digit_read : (d : ℕ) → d < 16 → digit_of (hex_digit d) ≡ d
unfolding digit_of
digit_read d small =
    cond_both (nat_lt d 10) (48 + d) (97 + (d - 10)) (λ glyph. digit_of glyph ≡ d)
    (λ so. let low = ltb-true d 10 so in ap (λ (t : Bool). cond t (48 + d - 48) (48 + d - 87)) (lt-ltb (48 + d) 58 (omega (arith, low))) ∙ omega arith)
    (λ so. let high = ltb-false d 10 so in ap (λ (t : Bool). cond t (97 + (d - 10) - 48) (97 + (d - 10) - 87)) (le-ltb (97 + (d - 10)) 58 (omega (arith, high))) ∙ omega (arith, high))

two_read : (byte : ℕ) (rest : List ℕ) → byte < 256 → read_hexadecimal (hex_digit (byte / 16) ∷ hex_digit (byte % 16) ∷ rest) ≡ (byte, rest)
unfolding read_hexadecimal
two_read byte rest small =
    let high : digit_of (hex_digit (byte / 16)) ≡ byte / 16 = digit_read (byte / 16) (omega (arith, small)) in
    let low : digit_of (hex_digit (byte % 16)) ≡ byte % 16 = digit_read (byte % 16) (omega arith) in
    let whole : byte / 16 * 16 + byte % 16 ≡ byte = div-add-mod' byte 16 in
    let sum : digit_of (hex_digit (byte / 16)) * 16 + digit_of (hex_digit (byte % 16)) ≡ byte = ap (λ (n : ℕ). n * 16 + digit_of (hex_digit (byte % 16))) high ∙ ap (λ (n : ℕ). byte / 16 * 16 + n) low ∙ whole in
    ap (λ (n : ℕ). (n, rest)) sum

is_read : (byte : ℕ) (rest : List ℕ) → read (escape_of byte ++ rest) ≡ (byte, rest)
unfolding read read_escape
is_read byte rest =
    cond_both (byte == 92) _ _ (λ text. read (text ++ rest) ≡ (byte, rest)) (λ so. same 92 (eqb-true byte 92 so))
    (λ a. cond_both (byte == 10) _ _ (λ text. read (text ++ rest) ≡ (byte, rest)) (λ so. same 10 (eqb-true byte 10 so))
    (λ b. cond_both (byte == 13) _ _ (λ text. read (text ++ rest) ≡ (byte, rest)) (λ so. same 13 (eqb-true byte 13 so))
    (λ c. cond_both (byte == 9) _ _ (λ text. read (text ++ rest) ≡ (byte, rest)) (λ so. same 9 (eqb-true byte 9 so))
    (λ d. cond_both (is_control byte) _ _ (λ text. read (text ++ rest) ≡ (byte, rest)) (λ so. two_read byte rest (grind (arith, so)))
    (λ so. ap (λ (t : Bool). cond t (read_escape rest) (byte, rest)) a)))))
  where
    same : (n : ℕ) → byte ≡ n → ◌≡◌ {A = ℕ × List ℕ} (n, rest) (byte, rest)
    same n e = ap (λ (m : ℕ). (m, rest)) (sym e)

some_stands : (byte : ℕ) (rest : List ℕ) → 0 < length (escape_of byte ++ rest)
some_stands byte rest =
    cond_both (byte == 92) _ _ (λ text. 0 < length (text ++ rest)) (λ so. omega arith)
    (λ a. cond_both (byte == 10) _ _ (λ text. 0 < length (text ++ rest)) (λ so. omega arith)
    (λ b. cond_both (byte == 13) _ _ (λ text. 0 < length (text ++ rest)) (λ so. omega arith)
    (λ c. cond_both (byte == 9) _ _ (λ text. 0 < length (text ++ rest)) (λ so. omega arith)
    (λ d. cond_both (is_control byte) _ _ (λ text. 0 < length (text ++ rest)) (λ so. omega arith) (λ so. omega arith)))))

pub escaped_reads_back : EscapedReadsBack
escaped_reads_back [] [] e = refl
escaped_reads_back [] (y ∷ ys) e = absurd (omega (arith, some_stands y (escaped ys), ap length e))
escaped_reads_back (x ∷ xs) [] e = absurd (omega (arith, some_stands x (escaped xs), ap length e))
escaped_reads_back (x ∷ xs) (y ∷ ys) e =
    let one : ◌≡◌ {A = ℕ × List ℕ} (x, escaped xs) (y, escaped ys) = sym (is_read x (escaped xs)) ∙ ap read e ∙ is_read y (escaped ys) in
    let first : x ≡ y = ap (λ (p : ℕ × List ℕ). p.0) one in
    let rest : xs ≡ ys = escaped_reads_back xs ys (ap (λ (p : ℕ × List ℕ). p.1) one) in
    cc
