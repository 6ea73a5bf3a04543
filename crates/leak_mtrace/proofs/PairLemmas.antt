-- An address and a size are around a space.
use Rattle.std.proofs.Common.{◌≡◌, ◌≢◌, ℕ, zero, suc, ◌+◌, ◌<◌, refl, sym, subst, ap, ◌∙◌, List, [], ◌∷◌, ◌++◌, Option, Some, None, arith, length, get_or, take, drop, append_assoc, length-append, ⊎_elim, eqb-true, eq-eqb}
use Rattle.std.proofs.lemmas.List.{take_at, drop_at, get_or_at, get_or_append_left, length_push, take-append-drop, drop_more}
use Rattle.std.proofs.lemmas.Bool.{cases_lt}
use Rattle.memchr.specs.Find.{IsFirstByte, is_byte}
use Rattle.leak_mtrace.specs.Decided.{Decides}
use Rattle.leak_mtrace.specs.Number.{IsAddress, IsSize, IsPair, IsPairAround}
use Rattle.leak_mtrace.proofs.SplitLemmas.{HasNoSpace}
use Rattle.leak_mtrace.proofs.CallLemmas.{address_no_space}

pub no_space_at : (text : List ℕ) (k : ℕ) → HasNoSpace text → k < length text → get_or text k 0 ≢ 32
no_space_at [] k h l = absurd (omega arith)
no_space_at (x ∷ text) zero h l = h.0
no_space_at (x ∷ text) (suc k) h l = no_space_at text k h.1 (omega arith)

-- a space after a front is a place in the text
space_at : (text a s : List ℕ) → text ≡ a ++ 32 ∷ s → (length a < length text) × (get_or text (length a) 0 ≡ 32)
space_at text a s e =
    (let l : length text ≡ length a + (length s + 1) = ap length e ∙ length-append a (32 ∷ s) ∙ omega arith in omega arith, ap (λ t. get_or t (length a) 0) e ∙ get_or_at a 32 s 0 (length a) refl)

pub first_space : (text a s : List ℕ) (k : ℕ) → text ≡ a ++ 32 ∷ s → HasNoSpace a → IsFirstByte (is_byte 32) text (Some k) → (take k text ≡ a) × (drop (k + 1) text ≡ s)
first_space text a s k e h f =
    let here : (length a < length text) × (get_or text (length a) 0 ≡ 32) = space_at text a s e in
    let early : length a < k → ⊥ = λ l. f.0.before (length a) (omega arith) l (eq-eqb _ _ here.1) in
    let late : k < length a → ⊥ = λ l. no_space_at a k h l (sym (get_or_append_left a (32 ∷ s) 0 k l) ∙ ap (λ t. get_or t k 0) (sym e) ∙ eqb-true _ _ f.1) in
    let same : length a ≡ k = ⊎_elim (λ l. absurd (late l)) (λ g. ⊎_elim (λ l. absurd (early l)) (λ g'. omega arith) (cases_lt (length a) k)) (cases_lt k (length a)) in (
      ap (take k) e ∙ take_at a (32 ∷ s) k same,
      ap (drop (k + 1)) (e ∙ sym (append_assoc a (32 ∷ []) s)) ∙ drop_at (a ++ 32 ∷ []) s (k + 1) (length_push a 32 ∙ ap (λ n. n + 1) same),
    )

-- what is around any space is a pair
pub pair : (text : List ℕ) (k m n : ℕ) → k < length text → get_or text k 0 ≡ 32 → IsPairAround text k m n → IsPair text m n
pair text k m n less space h =
    (take k text, drop (k + 1) text, sym (take-append-drop k text) ∙ ap (λ t. take k text ++ t) (drop_more text k 0 less ∙ ap (λ b. b ∷ drop (k + 1) text) space), h.0, h.1)

pub pair_no_space : (text : List ℕ) → IsFirstByte (is_byte 32) text None → (p : ℕ × ℕ) → IsPair text p.0 p.1 → ⊥
pair_no_space text f p h = let here : (length h.0 < length text) × (get_or text (length h.0) 0 ≡ 32) = space_at text h.0 h.1 h.2 in f (length h.0) (omega arith) here.0 (eq-eqb _ _ here.1)

-- what is around the first space decides
pub around : (text : List ℕ) (k : ℕ) (r : Option (ℕ × ℕ)) → IsFirstByte (is_byte 32) text (Some k) → Decides (λ p. IsPairAround text k p.0 p.1) r → Decides (λ p. IsPair text p.0 p.1) r
around text k None f none = λ p h.
    let cut : (take k text ≡ h.0) × (drop (k + 1) text ≡ h.1) = first_space text h.0 h.1 k h.2 (address_no_space h.0 p.0 h.3) f in
    none p (subst (λ (t : List ℕ). IsAddress t p.0) (sym cut.0) h.3, subst (λ (t : List ℕ). IsSize t p.1) (sym cut.1) h.4)
around text k (Some p) f h = pair text k p.0 p.1 f.0.high (eqb-true _ _ f.1) h
