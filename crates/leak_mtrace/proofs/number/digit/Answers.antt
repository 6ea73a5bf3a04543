-- The table is held against the definitions at each of the 256 bytes, by computing.
use Rattle.std.proofs.Common.{◌≡◌, ◌∙◌, ℕ, zero, suc, ◌<◌, ◌≤◌, Bool, true, false, ◌&&◌, nat_eq, if◌then◌else◌, IsTrue, List, get_or, refl, sym, arith, inl, inr, eqb-true, true≢false}
use Rattle.std.proofs.lemmas.Bool.{cases_eq}
use Rattle.leak_lemmas.proofs.Bools.{and_left, and_right}
use Rattle.leak_mtrace.specs.Number.{is_digit, digit_value}
use Rattle.leak_mtrace.specs.declared.number.TheConstants.{DIGITS}
use Rattle.leak_mtrace.proofs.DigitLemmas.{digit_below}
use Rattle.leak_mtrace.proofs.number.digit.Goals as goal

-- what the table has at a byte
abbrev entry : ℕ → ℕ
entry b = if is_digit b then digit_value b else 255

-- the table has it at each byte below n
agrees : List ℕ → ℕ → Bool
agrees table zero = true
agrees table (suc n) = nat_eq (get_or table n 0) (entry n) && agrees table n

agrees_at : (table : List ℕ) (n : ℕ) → agrees table n ≡ true → (b : ℕ) → b < n → get_or table b 0 ≡ entry b
unfolding agrees
agrees_at table zero h b lt = absurd (omega arith)
agrees_at table (suc n) h b lt = elim (cases_eq b n) [
  | inl same ↦ rw same (eqb-true _ _ (and_left (nat_eq (get_or table n 0) (entry n)) (agrees table n) h))
  | inr other ↦ agrees_at table n (and_right (nat_eq (get_or table n 0) (entry n)) (agrees table n) h) b (omega arith)
]

read : (b v : ℕ) → v ≡ entry b → v < 16 → IsTrue (is_digit b) × (v ≡ digit_value b)
read b v e small = go (is_digit b) refl e
  where
    go : (t : Bool) → is_digit b ≡ t → v ≡ (if t then digit_value b else 255) → IsTrue (is_digit b) × (v ≡ digit_value b)
    go true is e = (is, e)
    go false is e = absurd (omega arith)

refused : (b v : ℕ) → v ≡ entry b → 16 ≤ v → IsTrue (is_digit b) → ⊥
refused b v e big d = go (is_digit b) refl e
  where
    go : (t : Bool) → is_digit b ≡ t → v ≡ (if t then digit_value b else 255) → ⊥
    go true is e = omega (arith, digit_below b d)
    go false is e = true≢false (sym d ∙ is)

at : (b : ℕ) → b < 256 → get_or DIGITS b 0 ≡ entry b
unfolding agrees
at b lt = agrees_at DIGITS 256 refl b lt

pub returns-then-value-lt16 : goal.returns-then-value-lt16
returns-then-value-lt16 c = read c.args.byte _ (at c.args.byte (omega arith)) c.if-value-lt16.true

pub returns-else-value-lt16 : goal.returns-else-value-lt16
returns-else-value-lt16 c = refused c.args.byte _ (at c.args.byte (omega arith)) c.if-value-lt16.false
