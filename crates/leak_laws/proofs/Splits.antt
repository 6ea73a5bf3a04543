-- Where a number or a text ends is told by the byte after it.
use Rattle.std.proofs.Common.{◌≡◌, ℕ, ◌<◌, ◌≤◌, ◌^◌, ◌==◌, true, false, List, [], ◌∷◌, ◌++◌, refl, sym, ap, subst, ◌∙◌, arith}
use Rattle.std.specs.Prelude.{codes, decimal}
use Rattle.std.specs.Char.{digit_value}
use Rattle.std.specs.Fmt.{digits}
use Rattle.std.specs.Str.Parse.{AllDigits, digits_value}
use Rattle.std.proofs.lemmas.Bool.{eq-eqb, eqb-true, false_from_ne_true}
use Rattle.std.proofs.lemmas.Fmt.{decimal_injective, digits_is_IsNumeral}
use Rattle.std.proofs.lemmas.List.{append_cancel_left}
use Rattle.leak_report.specs.Lines.{hexadecimal}
use Rattle.leak_laws.specs.Readable.{IsNumber, Lacks}

-- two parts of a list
pub record AreSame {X : Type 0} (a b : X) (r s : List ℕ) : Type 0 where
  pub part : a ≡ b
  pub rest : r ≡ s

pub is_itself : (n : ℕ) → (n == n) ≡ false → ⊥
is_itself n e = let t : (n == n) ≡ true = eq-eqb n n refl in cc

-- two lists up to the first such byte
pub split_at : (c : ℕ) (xs ys r s : List ℕ) → Lacks c xs → Lacks c ys → xs ++ c ∷ r ≡ ys ++ c ∷ s → AreSame xs ys r s
split_at c [] [] r s p q e = record { part = refl; rest = (let f : r ≡ s = cc in f) }
split_at c [] (y ∷ ys) r s p q e = let same : y ≡ c = (let f : c ≡ y = cc in sym f) in absurd (is_itself c (subst (λ (b : ℕ). (b == c) ≡ false) same q.0))
split_at c (x ∷ xs) [] r s p q e = let same : x ≡ c = cc in absurd (is_itself c (subst (λ (b : ℕ). (b == c) ≡ false) same p.0))
split_at c (x ∷ xs) (y ∷ ys) r s p q e =
    let first : x ≡ y = cc in
    let later : xs ++ c ∷ r ≡ ys ++ c ∷ s = cc in
    let more = split_at c xs ys r s p.1 q.1 later in
    let rest : xs ≡ ys = more.part in
    record { part = (let f : x ∷ xs ≡ y ∷ ys = cc in f); rest = more.rest }

-- a byte that is no digit
pub lacks_digits : (base c : ℕ) (ds : List ℕ) → base ≤ digit_value c → AllDigits base ds → Lacks c ds
lacks_digits base c [] none all = tt
lacks_digits base c (d ∷ ds) none all =
    (false_from_ne_true (d == c) (λ is. let e : d ≡ c = eqb-true d c is in let low : digit_value c < base = subst (λ (b : ℕ). digit_value b < base) e all.0 in omega arith), lacks_digits base c ds none all.1)

-- a decimal number, and a space or a line feed after it
pub split_number : (c m n : ℕ) (r s : List ℕ) → 10 ≤ digit_value c → IsNumber m → IsNumber n → decimal m ++ c ∷ r ≡ decimal n ++ c ∷ s → AreSame m n r s
split_number c m n r s none p q e =
    let left = digits_is_IsNumeral 10 false (omega arith) (omega arith) m (wide m p) in
    let right = digits_is_IsNumeral 10 false (omega arith) (omega arith) n (wide n q) in
    let same = split_at c (decimal m) (decimal n) r s (lacks_digits 10 c (decimal m) none left.0.1) (lacks_digits 10 c (decimal n) none right.0.1) e in
    record { part = decimal_injective m n p q same.part; rest = same.rest }
  where
    wide : (k : ℕ) → k < 2 ^ 64 → k < 10 ^ 64
    wide k h = omega arith

-- an address
pub split_address : (c m n : ℕ) (r s : List ℕ) → 16 ≤ digit_value c → IsNumber m → IsNumber n → hexadecimal m ++ c ∷ r ≡ hexadecimal n ++ c ∷ s → AreSame m n r s
split_address c m n r s none p q e =
    let left = digits_is_IsNumeral 16 false (omega arith) (omega arith) m (wide m p) in
    let right = digits_is_IsNumeral 16 false (omega arith) (omega arith) n (wide n q) in
    let after : digits 16 false m ++ c ∷ r ≡ digits 16 false n ++ c ∷ s = append_cancel_left (codes "0x") (digits 16 false m ++ c ∷ r) (digits 16 false n ++ c ∷ s) e in
    let same = split_at c (digits 16 false m) (digits 16 false n) r s (lacks_digits 16 c (digits 16 false m) none left.0.1) (lacks_digits 16 c (digits 16 false n) none right.0.1) after in
    record { part = sym left.1 ∙ ap (digits_value 16) same.part ∙ right.1; rest = same.rest }
  where
    wide : (k : ℕ) → k < 2 ^ 64 → k < 16 ^ 64
    wide k h = omega arith
