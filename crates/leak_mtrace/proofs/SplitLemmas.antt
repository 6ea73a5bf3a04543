-- A text at its spaces.
use Rattle.std.proofs.Common.{◌≡◌, ◌≢◌, ℕ, true, ◌⊎◌, inl, inr, refl, sym, subst, ap, ◌∙◌, true≢false, List, [], ◌∷◌, ◌++◌}
use Rattle.std.specs.List.{AllByRecursion, list_all}
use Rattle.leak_lemmas.proofs.Bools.{and_right, and_left}
use Rattle.leak_mtrace.specs.Number.{is_digit}

pub tail : {x y : ℕ} {xs ys : List ℕ} → x ∷ xs ≡ y ∷ ys → xs ≡ ys
tail e = cc

pub head : {x y : ℕ} {xs ys : List ℕ} → x ∷ xs ≡ y ∷ ys → x ≡ y
head e = cc

pub no_cons : {x : ℕ} {xs : List ℕ} → [] ≡ x ∷ xs → ⊥
no_cons e = cc

-- the text has no space
abbrev pub HasNoSpace : List ℕ → Type 0
HasNoSpace text = AllByRecursion (λ b. b ≢ 32) text

-- a space in a text without one
pub no_space_in : (text q r : List ℕ) → HasNoSpace text → text ≡ q ++ 32 ∷ r → ⊥
no_space_in [] [] r h e = no_cons e
no_space_in [] (y ∷ q) r h e = no_cons e
no_space_in (x ∷ text) [] r h e = h.0 (head e)
no_space_in (x ∷ text) (y ∷ q) r h e = no_space_in text q r h.1 (tail e)

-- a space after a text without one
pub behind : (text rest q r : List ℕ) → HasNoSpace text → text ++ rest ≡ q ++ 32 ∷ r → (p : List ℕ) × (rest ≡ p ++ 32 ∷ r)
behind [] rest q r h e = (q, e)
behind (x ∷ text) rest [] r h e = absurd (h.0 (head e))
behind (x ∷ text) rest (y ∷ q) r h e = behind text rest q r h.1 (tail e)

-- two ways to cut one text at a space: the same, or one rest is within the other
pub compared : (p p' r r' : List ℕ) → p ++ 32 ∷ r ≡ p' ++ 32 ∷ r' → ((p ≡ p') × (r ≡ r')) ⊎ (((q : List ℕ) × (r ≡ q ++ 32 ∷ r')) ⊎ ((q : List ℕ) × (r' ≡ q ++ 32 ∷ r)))
compared [] [] r r' e = inl (refl, tail e)
compared [] (y ∷ p') r r' e = inr (inl (p', tail e))
compared (x ∷ p) [] r r' e = inr (inr (p, sym (tail e)))
compared (x ∷ p) (y ∷ p') r r' e = elim (compared p p' r r' (tail e)) [ inl s ↦ inl (ap (λ t. t ∷ p) (head e) ∙ ap (λ t. y ∷ t) s.0, s.1) | inr s ↦ inr s ]

-- ---- digits

pub digits_no_space : (digits : List ℕ) → list_all is_digit digits ≡ true → HasNoSpace digits
digits_no_space [] h = tt
digits_no_space (d ∷ digits) h = (
  λ e. true≢false (sym (subst (λ (b : ℕ). is_digit b ≡ true) e (and_left (is_digit d) (list_all is_digit digits) h))),
  digits_no_space digits (and_right (is_digit d) (list_all is_digit digits) h),
)
