-- A line after its first two bytes.
use Rattle.std.proofs.Common.{◌≡◌, ◌≢◌, ℕ, ◌+◌, ◌<◌, ◌≤◌, ◌⊎◌, inl, inr, refl, sym, subst, ap, ◌∙◌, ◌==◌, Bool, true, false, true≢false, eqb-true, List, [], ◌∷◌, ◌++◌, Option, Some, None, arith, length, get_or, take, drop, append_assoc, length-append}
use Rattle.std.proofs.lemmas.List.{drop_at, take-append-drop}
use Rattle.std.proofs.lemmas.Option.{same_Some}
use Rattle.std.specs.Cmp.Lexicographic.{pointwise}
use Rattle.leak_lemmas.proofs.Bools.{and_left}
use Rattle.leak_mtrace.specs.declared.line.Kind.{Kind}
use Rattle.leak_mtrace.specs.declared.line.Kind.TheVariants.{Alloc, Free, MoveOut, MoveIn, Failed, Remark}
use Rattle.leak_mtrace.specs.declared.line.Line.{Line}
use Rattle.leak_mtrace.specs.declared.call.Call.{Call}
use Rattle.leak_mtrace.specs.Line.{IsPlace, IsRemark, IsPlain, IsPlaced, IsAfterPlace, IsCall, IsLine, sign_of}
use Rattle.leak_mtrace.specs.Decided.{Decides}
use Rattle.leak_mtrace.specs.CallPlace.{IsPlaceEnd}
use Rattle.leak_mtrace.proofs.SplitLemmas.{tail}
use Rattle.leak_mtrace.proofs.CallPlaceLemmas.{place_end_is}
use Rattle.leak_mtrace.proofs.BodyLemmas.{call_front, call_not_remark}

pub behind_placed : (text rest : List ℕ) (x : Line) → text ≡ 64 ∷ 32 ∷ rest → IsAfterPlace rest x → IsPlaced text x
behind_placed text rest x e h = (h.0, h.1, e ∙ ap (λ t. 64 ∷ 32 ∷ t) (h.2 ∙ sym (append_assoc h.0 (32 ∷ []) h.1)), h.3, h.4, h.5)

pub placed_behind : (text rest : List ℕ) (x : Line) → text ≡ 64 ∷ 32 ∷ rest → IsPlaced text x → IsAfterPlace rest x
placed_behind text rest x e h = (h.0, h.1, tail (tail (sym e ∙ h.2)) ∙ append_assoc h.0 (32 ∷ []) h.1, h.3, h.4, h.5)

-- ---- what is around the end that was found

-- no end was found
pub behind_no_end : (text : List ℕ) → IsPlaceEnd text None → (x : Line) → IsAfterPlace text x → ⊥
behind_no_end text f x h = let e : None ≡ Some (length h.0) = place_end_is text h.0 h.1 None x.kind x.addr x.size f h.2 h.3 h.4 in cc

pub behind_end : (text : List ℕ) (end : ℕ) (x : Line) → IsPlaceEnd text (Some end) → (h : IsAfterPlace text x) → end ≡ length h.0
behind_end text end x f h = same_Some _ _ (place_end_is text h.0 h.1 (Some end) x.kind x.addr x.size f h.2 h.3 h.4)

-- it is the beginning
pub behind_end_zero : (text : List ℕ) → IsPlaceEnd text (Some 0) → (x : Line) → IsAfterPlace text x → ⊥
behind_end_zero text f x h = go h.0 (behind_end text 0 x f h) h.3
  where
    go : (place : List ℕ) → 0 ≡ length place → IsPlace place → ⊥
    go [] e p = p.0 refl
    go (b ∷ place) e p = absurd (omega arith)

-- what is there
pub behind_cut : (text back : List ℕ) (end : ℕ) (x : Line) → back ≡ drop end text → IsPlaceEnd text (Some end) → (h : IsAfterPlace text x) → back ≡ 32 ∷ h.1
behind_cut text back end x e f h = e ∙ ap (drop end) h.2 ∙ drop_at h.0 (32 ∷ h.1) end (sym (behind_end text end x f h))

abbrev begins : List ℕ → List ℕ → Bool
begins text front = pointwise ◌==◌ (take (length front) text) front

-- no space is there
pub behind_no_space : (text back space : List ℕ) (end : ℕ) → back ≡ drop end text → space ≡ 32 ∷ [] → IsPlaceEnd text (Some end) → begins back space ≡ false → (x : Line) → IsAfterPlace text x → ⊥
behind_no_space text back space end e s f never x h = true≢false (sym (ap (begins back) s ∙ ap (λ t. begins t (32 ∷ [])) (behind_cut text back end x e f h)) ∙ never)

-- no call follows the space
pub behind_no_call : (text back space rest : List ℕ) (end : ℕ) → back ≡ drop end text → space ≡ 32 ∷ [] → rest ≡ drop (length space) back → IsPlaceEnd text (Some end) → ((y : Call) → IsCall y.kind rest y.addr y.size → ⊥) → (x : Line) → IsAfterPlace text x → ⊥
behind_no_call text back space rest end e s r f never x h =
    never (record { kind = x.kind; addr = x.addr; size = x.size }) (subst (λ (t : List ℕ). IsCall x.kind t x.addr x.size) (sym (r ∙ ap (λ t. drop (length t) back) s ∙ ap (drop 1) (behind_cut text back end x e f h))) h.4)

space_and_rest : (text : List ℕ) → begins text (32 ∷ []) ≡ true → text ≡ 32 ∷ drop 1 text
space_and_rest [] h = absurd (true≢false (sym h))
space_and_rest (b ∷ text) h = ap (λ t. t ∷ text) (eqb-true b 32 (and_left (b == 32) true h))

-- the place, the space and what follows it
pub behind_whole : (text back space rest : List ℕ) (end : ℕ) → back ≡ drop end text → space ≡ 32 ∷ [] → rest ≡ drop (length space) back → begins back space ≡ true → text ≡ take end text ++ 32 ∷ rest
behind_whole text back space rest end e s r h =
    sym (take-append-drop end text) ∙ ap (λ t. take end text ++ t) (sym e ∙ space_and_rest back (sym (ap (begins back) s) ∙ h) ∙ ap (λ t. 32 ∷ t) (sym (r ∙ ap (λ t. drop (length t) back) s)))

-- ---- by the first bytes

pub empty_line : (text : List ℕ) → length text < 1 → IsRemark text (record { kind = Remark; addr = 0; size = 0; caller = (0, 0) })
empty_line [] h = (inl refl, refl)
empty_line (b ∷ text) h = absurd (omega arith)

pub equals_line : (text : List ℕ) → 1 ≤ length text → get_or text 0 0 ≡ 61 → IsRemark text (record { kind = Remark; addr = 0; size = 0; caller = (0, 0) })
equals_line [] h e = absurd (omega arith)
equals_line (b ∷ text) h e = (inr (ap (λ x. Some x) e), refl)

pub remark_first : (text : List ℕ) (x : Line) → IsRemark text x → (length text ≡ 0) ⊎ (get_or text 0 0 ≡ 61)
remark_first [] x h = inl refl
remark_first (b ∷ text) x h = elim h.0 [ inl e ↦ absurd (omega (arith, ap length e)) | inr e ↦ inr (same_Some _ _ e) ]

pub placed_first : (text : List ℕ) (x : Line) → IsPlaced text x → (2 ≤ length text) × (get_or text 0 0 ≡ 64) × (get_or text 1 0 ≡ 32)
placed_first text x h =
    let size : length text ≡ length ((h.0 ++ 32 ∷ []) ++ h.1) + 2 = ap length h.2 ∙ omega arith in
    (omega (arith, size), ap (λ t. get_or t 0 0) h.2, ap (λ t. get_or t 1 0) h.2)

pub plain_first : (text : List ℕ) (x : Line) → IsPlain text x → (2 ≤ length text) × (get_or text 0 0 ≡ sign_of x.kind) × (x.kind ≢ Remark)
plain_first text x h = let f : (2 ≤ length text) × (get_or text 0 0 ≡ sign_of x.kind) × (get_or text 1 0 ≡ 32) = call_front x.kind text x.addr x.size h.0 in (f.0, f.1, call_not_remark x.kind text x.addr x.size h.0)

sign_other : (k : Kind) → k ≢ Remark → (sign_of k ≡ 64 → ⊥) × (sign_of k ≡ 61 → ⊥)
sign_other Alloc h = (λ e. absurd (omega (arith, e)), λ e. absurd (omega (arith, e)))
sign_other Free h = (λ e. absurd (omega (arith, e)), λ e. absurd (omega (arith, e)))
sign_other MoveOut h = (λ e. absurd (omega (arith, e)), λ e. absurd (omega (arith, e)))
sign_other MoveIn h = (λ e. absurd (omega (arith, e)), λ e. absurd (omega (arith, e)))
sign_other Failed h = (λ e. absurd (omega (arith, e)), λ e. absurd (omega (arith, e)))
sign_other Remark h = absurd (h refl)

-- after '@' and a space nothing but a call after its place
pub line_behind : (text back : List ℕ) (r : Option Line) → text ≡ 64 ∷ 32 ∷ back → Decides (IsAfterPlace back) r → Decides (IsLine text) r
unfolding IsLine
line_behind text back None e h = λ x l. elim l [
  | inl m ↦ elim (remark_first text x m) [ inl z ↦ absurd (omega (arith, sym z ∙ ap length e)) | inr f ↦ absurd (omega (arith, sym f ∙ ap (λ t. get_or t 0 0) e)) ]
  | inr m ↦ elim m [
    | inl p ↦ let f : (2 ≤ length text) × (get_or text 0 0 ≡ sign_of x.kind) × (x.kind ≢ Remark) = plain_first text x p in (sign_other x.kind f.2).0 (sym f.1 ∙ ap (λ t. get_or t 0 0) e)
    | inr p ↦ h x (placed_behind text back x e p)
  ]
]
line_behind text back (Some y) e h = inr (inr (behind_placed text back y e h))

-- a line that is no remark and doesn't begin with '@' and a space
pub line_plain : (text : List ℕ) (r : Option Line) → 1 ≤ length text → get_or text 0 0 ≢ 61 → (2 ≤ length text → get_or text 0 0 ≡ 64 → get_or text 1 0 ≡ 32 → ⊥) → Decides (IsPlain text) r → Decides (IsLine text) r
unfolding IsLine
line_plain text None l n f h = λ x s. elim s [
  | inl m ↦ elim (remark_first text x m) [ inl z ↦ absurd (omega arith) | inr e ↦ n e ]
  | inr m ↦ elim m [ inl p ↦ h x p | inr p ↦ let g : (2 ≤ length text) × (get_or text 0 0 ≡ 64) × (get_or text 1 0 ≡ 32) = placed_first text x p in f g.0 g.1 g.2 ]
]
line_plain text (Some y) l n f h = inr (inl h)

pub line_remark : (text : List ℕ) (x : Line) → IsRemark text x → IsLine text x
unfolding IsLine
line_remark text x h = inl h

-- ---- the caller is a range of the line

pub caller_within : (text : List ℕ) (x : Line) → IsLine text x → (x.caller.0 ≤ x.caller.1) × (x.caller.1 ≤ length text)
unfolding IsLine
caller_within text x (inl h) = (omega (arith, ap (λ y. y.caller.0) h.1, ap (λ y. y.caller.1) h.1), omega (arith, ap (λ y. y.caller.1) h.1))
caller_within text x (inr (inl h)) = (omega (arith, ap (λ p. p.0) h.1, ap (λ p. p.1) h.1), omega (arith, ap (λ p. p.1) h.1))
caller_within text x (inr (inr h)) =
    let whole : text ≡ 64 ∷ 32 ∷ (h.0 ++ 32 ∷ h.1) = h.2 ∙ ap (λ t. 64 ∷ 32 ∷ t) (append_assoc h.0 (32 ∷ []) h.1) in
    let size : length text ≡ length (h.0 ++ 32 ∷ h.1) + 2 = ap length whole ∙ omega arith in
    (omega (arith, ap (λ p. p.0) h.5, ap (λ p. p.1) h.5), omega (arith, ap (λ p. p.1) h.5, size, length-append h.0 (32 ∷ h.1)))
