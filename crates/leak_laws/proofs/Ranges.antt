-- Consecutive numbers that pass tests.
use Rattle.std.proofs.Common.{◌≡◌, ℕ, zero, suc, ◌+◌, ◌<◌, ◌≤◌, ◌⊎◌, inl, inr, Bool, true, false, cond, ◌∷◌, length, filter, refl, sym, ap, ◌∙◌, arith}
use Rattle.std.specs.List.{list_all, range_with_len}
use Rattle.std.proofs.lemmas.Bool.{and_from, and_parts, cases_eq}
use Rattle.leak_lemmas.proofs.Members.{Has}

pub in_range : (a n x : ℕ) → a ≤ x → x < a + n → Has (range_with_len a n) x
in_range a zero x low high = absurd (omega arith)
in_range a (suc n) x low high = go (cases_eq a x) (in_range (a + 1) n x)
  where
    go : (a ≡ x) ⊎ (a ≡ x → ⊥) → (a + 1 ≤ x → x < a + 1 + n → Has (range_with_len (a + 1) n) x) → (a ≡ x) ⊎ Has (range_with_len (a + 1) n) x
    go (inl same) later = inl same
    go (inr apart) later = inr (later (omega (arith, apart)) (omega arith))

-- of those that pass one test each passes the other, or not
pub passes_both : (p q : ℕ → Bool) (a n : ℕ) → list_all p (filter q (range_with_len a n)) ≡ true → (x : ℕ) → a ≤ x → x < a + n → q x ≡ true → p x ≡ true
passes_both p q a zero all x low high is = absurd (omega arith)
passes_both p q a (suc n) all x low high is = go (q a) refl (cases_eq a x) all (λ rest later. passes_both p q (a + 1) n rest x later (omega arith) is)
  where
    go : (t : Bool) → q a ≡ t → (a ≡ x) ⊎ (a ≡ x → ⊥) → list_all p (cond t (a ∷ filter q (range_with_len (a + 1) n)) (filter q (range_with_len (a + 1) n))) ≡ true
        → (list_all p (filter q (range_with_len (a + 1) n)) ≡ true → a + 1 ≤ x → p x ≡ true) → p x ≡ true
    go true e (inl same) these later = ap p (sym same) ∙ (and_parts (p a) (list_all p (filter q (range_with_len (a + 1) n))) these).0
    go true e (inr apart) these later = later (and_parts (p a) (list_all p (filter q (range_with_len (a + 1) n))) these).1 (omega (arith, apart))
    go false e (inl same) these later = let f : q x ≡ false = ap q (sym same) ∙ e in absurd (cc)
    go false e (inr apart) these later = later these (omega (arith, apart))

pub all_pass : (p q : ℕ → Bool) (a n : ℕ) → ((x : ℕ) → a ≤ x → x < a + n → q x ≡ true → p x ≡ true) → list_all p (filter q (range_with_len a n)) ≡ true
all_pass p q a zero h = refl
all_pass p q a (suc n) h = go (q a) (h a (omega arith) (omega arith)) (all_pass p q (a + 1) n (λ x low high. h x (omega arith) (omega arith)))
  where
    go : (t : Bool) → (t ≡ true → p a ≡ true) → list_all p (filter q (range_with_len (a + 1) n)) ≡ true
        → list_all p (cond t (a ∷ filter q (range_with_len (a + 1) n)) (filter q (range_with_len (a + 1) n))) ≡ true
    go true here later = and_from (p a) (list_all p (filter q (range_with_len (a + 1) n))) (here refl) later
    go false here later = later

-- one that passes
pub record Passes (p : ℕ → Bool) (a n : ℕ) : Type 0 where
  pub number : ℕ
  pub low : a ≤ number
  pub high : number < a + n
  pub passes : p number ≡ true

pub some_passes : (p : ℕ → Bool) (a n : ℕ) → 0 < length (filter p (range_with_len a n)) → Passes p a n
some_passes p a zero some = absurd (omega arith)
some_passes p a (suc n) some = go (p a) refl some (λ more. wider (some_passes p (a + 1) n more))
  where
    wider : Passes p (a + 1) n → Passes p a (suc n)
    wider one = record { number = one.number; low = omega (arith, one.low); high = omega (arith, one.high); passes = one.passes }

    go : (t : Bool) → p a ≡ t → 0 < length (cond t (a ∷ filter p (range_with_len (a + 1) n)) (filter p (range_with_len (a + 1) n)))
        → (0 < length (filter p (range_with_len (a + 1) n)) → Passes p a (suc n)) → Passes p a (suc n)
    go true e more later = record { number = a; low = omega arith; high = omega arith; passes = e }
    go false e more later = later more

pub passes_some : (p : ℕ → Bool) (a n x : ℕ) → a ≤ x → x < a + n → p x ≡ true → 0 < length (filter p (range_with_len a n))
passes_some p a zero x low high is = absurd (omega arith)
passes_some p a (suc n) x low high is = go (p a) refl (passes_some p (a + 1) n x)
  where
    go : (b : Bool) → p a ≡ b → (a + 1 ≤ x → x < a + 1 + n → p x ≡ true → 0 < length (filter p (range_with_len (a + 1) n)))
        → 0 < length (cond b (a ∷ filter p (range_with_len (a + 1) n)) (filter p (range_with_len (a + 1) n)))
    go true e later = omega arith
    go false e later = later (at_least (cases_eq a x)) (omega arith) is
      where
        at_least : (a ≡ x) ⊎ (a ≡ x → ⊥) → a + 1 ≤ x
        at_least (inl same) = let f : p x ≡ false = ap p (sym same) ∙ e in absurd (cc)
        at_least (inr apart) = omega (arith, apart)

-- what passes a stronger test is no more
pub no_more : (p q : ℕ → Bool) (a n : ℕ) → ((x : ℕ) → a ≤ x → x < a + n → p x ≡ true → q x ≡ true)
    → length (filter p (range_with_len a n)) ≤ length (filter q (range_with_len a n))
no_more p q a zero h = omega arith
no_more p q a (suc n) h = go (p a) (q a) (h a (omega arith) (omega arith)) (no_more p q (a + 1) n (λ x low high. h x (omega arith) (omega arith)))
  where
    go : (s t : Bool) → (s ≡ true → t ≡ true) → length (filter p (range_with_len (a + 1) n)) ≤ length (filter q (range_with_len (a + 1) n))
        → length (cond s (a ∷ filter p (range_with_len (a + 1) n)) (filter p (range_with_len (a + 1) n))) ≤ length (cond t (a ∷ filter q (range_with_len (a + 1) n)) (filter q (range_with_len (a + 1) n)))
    go true true here later = omega (arith, later)
    go true false here later = let no : false ≡ true = here refl in absurd (cc)
    go false true here later = omega (arith, later)
    go false false here later = later

-- and less, if one number passes the weaker test alone
pub fewer : (p q : ℕ → Bool) (a n : ℕ) → ((x : ℕ) → a ≤ x → x < a + n → p x ≡ true → q x ≡ true) → (y : ℕ) → a ≤ y → y < a + n → p y ≡ false → q y ≡ true
    → length (filter p (range_with_len a n)) < length (filter q (range_with_len a n))
fewer p q a zero h y low high out is = absurd (omega arith)
fewer p q a (suc n) h y low high out is =
    go (p a) refl (q a) refl (h a (omega arith) (omega arith)) (cases_eq a y) (no_more p q (a + 1) n (λ x l m. h x (omega arith) (omega arith)))
    (λ later. fewer p q (a + 1) n (λ x l m. h x (omega arith) (omega arith)) y later (omega arith) out is)
  where
    go : (s : Bool) → p a ≡ s → (t : Bool) → q a ≡ t → (s ≡ true → t ≡ true) → (a ≡ y) ⊎ (a ≡ y → ⊥) → length (filter p (range_with_len (a + 1) n)) ≤ length (filter q (range_with_len (a + 1) n))
        → (a + 1 ≤ y → length (filter p (range_with_len (a + 1) n)) < length (filter q (range_with_len (a + 1) n)))
        → length (cond s (a ∷ filter p (range_with_len (a + 1) n)) (filter p (range_with_len (a + 1) n))) < length (cond t (a ∷ filter q (range_with_len (a + 1) n)) (filter q (range_with_len (a + 1) n)))
    go true e t f here (inl same) rest later = let g : p y ≡ true = ap p (sym same) ∙ e in absurd (cc)
    go false e true f here (inl same) rest later = omega (arith, rest)
    go false e false f here (inl same) rest later = let g : q y ≡ false = ap q (sym same) ∙ f in absurd (cc)
    go true e true f here (inr apart) rest later = let less = later (omega (arith, apart)) in omega (arith, less)
    go true e false f here (inr apart) rest later = let no : false ≡ true = here refl in absurd (cc)
    go false e true f here (inr apart) rest later = omega (arith, rest)
    go false e false f here (inr apart) rest later = later (omega (arith, apart))
