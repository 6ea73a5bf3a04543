-- A call is a sign, a space and a body.
use Rattle.std.proofs.Common.{◌≡◌, ◌≢◌, ℕ, ◌-◌, ◌≤◌, refl, sym, subst, ap, ◌∙◌, List, [], ◌∷◌, ◌++◌, arith, length, get_or, take, drop}
use Rattle.std.proofs.lemmas.List.{take_rest}
use Rattle.leak_mtrace.specs.declared.line.Kind.{Kind}
use Rattle.leak_mtrace.specs.declared.line.Kind.TheVariants.{Alloc, Free, MoveOut, MoveIn, Failed, Remark}
use Rattle.leak_mtrace.specs.Line.{IsBody, IsCall, sign_of}
use Rattle.leak_mtrace.proofs.CallLemmas.{regroup, kind_of, kind_of_sign}

pub call_body : (k : Kind) (text : List ℕ) (m n : ℕ) → IsCall k text m n → (rest : List ℕ) × (text ≡ sign_of k ∷ 32 ∷ rest) × IsBody k rest m n
call_body Alloc text m n c = (c.0 ++ 32 ∷ c.1, c.2 ∙ ap (λ t. 43 ∷ 32 ∷ t) (regroup c.0 c.1), (c.0, c.1, refl, c.3, c.4))
call_body Free text m n c = (c.0, c.1, (c.2, c.3))
call_body MoveOut text m n c = (c.0, c.1, (c.2, c.3))
call_body MoveIn text m n c = (c.0 ++ 32 ∷ c.1, c.2 ∙ ap (λ t. 62 ∷ 32 ∷ t) (regroup c.0 c.1), (c.0, c.1, refl, c.3, c.4))
call_body Failed text m n c = (c.0 ++ 32 ∷ c.1, c.2 ∙ ap (λ t. 33 ∷ 32 ∷ t) (regroup c.0 c.1), (c.0, c.1, refl, c.3, c.4))
call_body Remark text m n c = elim c [ ]

pub body_call : (k : Kind) (text rest : List ℕ) (m n : ℕ) → text ≡ sign_of k ∷ 32 ∷ rest → IsBody k rest m n → IsCall k text m n
body_call Alloc text rest m n e b = (b.0, b.1, e ∙ ap (λ t. 43 ∷ 32 ∷ t) (b.2 ∙ sym (regroup b.0 b.1)), b.3, b.4)
body_call Free text rest m n e b = (rest, e, b.0, b.1)
body_call MoveOut text rest m n e b = (rest, e, b.0, b.1)
body_call MoveIn text rest m n e b = (b.0, b.1, e ∙ ap (λ t. 62 ∷ 32 ∷ t) (b.2 ∙ sym (regroup b.0 b.1)), b.3, b.4)
body_call Failed text rest m n e b = (b.0, b.1, e ∙ ap (λ t. 33 ∷ 32 ∷ t) (b.2 ∙ sym (regroup b.0 b.1)), b.3, b.4)
body_call Remark text rest m n e b = elim b [ ]

pub sign_same : (k k' : Kind) → sign_of k ≡ sign_of k' → k ≡ k'
sign_same k k' e = sym (kind_of_sign k) ∙ ap kind_of e ∙ kind_of_sign k'

-- no call begins as a remark would
pub call_not_remark : (k : Kind) (text : List ℕ) (m n : ℕ) → IsCall k text m n → k ≢ Remark
call_not_remark k text m n c e = let d : IsCall Remark text m n = subst (λ (z : Kind). IsCall z text m n) e c in d

-- its first two bytes
pub call_front : (k : Kind) (text : List ℕ) (m n : ℕ) → IsCall k text m n → (2 ≤ length text) × (get_or text 0 0 ≡ sign_of k) × (get_or text 1 0 ≡ 32)
call_front k text m n c =
    let b : (rest : List ℕ) × (text ≡ sign_of k ∷ 32 ∷ rest) × IsBody k rest m n = call_body k text m n c in
    (subst (λ (t : List ℕ). 2 ≤ length t) (sym b.1) (omega arith), ap (λ t. get_or t 0 0) b.1, ap (λ t. get_or t 1 0) b.1)

pub two_and_rest : (text : List ℕ) (a b : ℕ) → 2 ≤ length text → get_or text 0 0 ≡ a → get_or text 1 0 ≡ b → text ≡ a ∷ b ∷ take (length text - 2) (drop 2 text)
two_and_rest [] a b h x y = absurd (omega arith)
two_and_rest (p ∷ []) a b h x y = absurd (omega arith)
two_and_rest (p ∷ q ∷ text) a b h x y = ap (λ t. t ∷ q ∷ text) x ∙ ap (λ t. a ∷ t ∷ text) y ∙ ap (λ t. a ∷ b ∷ t) (sym (take_rest (p ∷ q ∷ text) 2))

-- a sign, a space and what is no body after the sign
pub no_body : (text : List ℕ) (k : Kind) → get_or text 0 0 ≡ sign_of k → ((p : ℕ × ℕ) → IsBody k (take (length text - 2) (drop 2 text)) p.0 p.1 → ⊥) → (k' : Kind) (m n : ℕ) → IsCall k' text m n → ⊥
no_body text k first none k' m n c =
    let b : (rest : List ℕ) × (text ≡ sign_of k' ∷ 32 ∷ rest) × IsBody k' rest m n = call_body k' text m n c in
    let same : k' ≡ k = sign_same k' k (sym (ap (λ t. get_or t 0 0) b.1) ∙ first) in
    let rest : take (length text - 2) (drop 2 text) ≡ b.0 = take_rest text 2 ∙ ap (λ t. drop 2 t) b.1 in
    let here : IsBody k b.0 m n = subst (λ (z : Kind). IsBody z b.0 m n) same b.2 in
    none (m, n) (subst (λ (t : List ℕ). IsBody k t m n) (sym rest) here)
