-- A line says one thing at most: by the first byte, and for a call after its place by the space before it.
use Rattle.std.proofs.Common.{◌≡◌, ℕ, ◌+◌, ◌⊎◌, inl, inr, sym, subst, ap, ◌∙◌, List, [], ◌∷◌, Some, None, slice_get, arith, append_assoc, length}
use Rattle.std.proofs.lemmas.Option.{same_Some, none-some}
use Rattle.leak_mtrace.specs.declared.line.Kind.{Kind}
use Rattle.leak_mtrace.specs.declared.line.Kind.TheVariants.{Alloc, Free, MoveOut, MoveIn, Failed, Remark}
use Rattle.leak_mtrace.specs.declared.line.Line.{Line}
use Rattle.leak_mtrace.specs.Line.{sign_of, IsLine, IsRemark, IsPlain, IsPlaced, IsCall}
use Rattle.leak_mtrace.proofs.SplitLemmas.{tail, compared}
use Rattle.leak_mtrace.proofs.CallLemmas.{first_byte, one_kind, one_call, no_call_within}

same_line : (x y : Line) → x.kind ≡ y.kind → x.addr ≡ y.addr → x.size ≡ y.size → x.caller ≡ y.caller → x ≡ y
same_line x y k a s c = λ i. record { kind = k i; addr = a i; size = s i; caller = c i }

-- a call's sign is not another byte
other_sign : (k : Kind) (text : List ℕ) (m n : ℕ) → IsCall k text m n → (slice_get text 0 ≡ None) ⊎ ((slice_get text 0 ≡ Some 61) ⊎ (slice_get text 0 ≡ Some 64)) → ⊥
other_sign k text m n c h = go k (first_byte k text m n c) c h
  where
    none : (s : ℕ) → None ≡ Some s → ⊥
    none s e = cc

    both : (s : ℕ) → (s ≡ 61 → ⊥) → (s ≡ 64 → ⊥) → slice_get text 0 ≡ Some s → (slice_get text 0 ≡ None) ⊎ ((slice_get text 0 ≡ Some 61) ⊎ (slice_get text 0 ≡ Some 64)) → ⊥
    both s p q e (inl t) = none s (sym t ∙ e)
    both s p q e (inr (inl t)) = p (same_Some s 61 (sym e ∙ t))
    both s p q e (inr (inr t)) = q (same_Some s 64 (sym e ∙ t))

    go : (k : Kind) → slice_get text 0 ≡ Some (sign_of k) → IsCall k text m n → (slice_get text 0 ≡ None) ⊎ ((slice_get text 0 ≡ Some 61) ⊎ (slice_get text 0 ≡ Some 64)) → ⊥
    go Alloc e c h = both 43 (λ s. absurd (omega (arith, s))) (λ s. absurd (omega (arith, s))) e h
    go Free e c h = both 45 (λ s. absurd (omega (arith, s))) (λ s. absurd (omega (arith, s))) e h
    go MoveOut e c h = both 60 (λ s. absurd (omega (arith, s))) (λ s. absurd (omega (arith, s))) e h
    go MoveIn e c h = both 62 (λ s. absurd (omega (arith, s))) (λ s. absurd (omega (arith, s))) e h
    go Failed e c h = both 33 (λ s. absurd (omega (arith, s))) (λ s. absurd (omega (arith, s))) e h
    go Remark e c h = c

remark_byte : (text : List ℕ) (x : Line) → IsRemark text x → (slice_get text 0 ≡ None) ⊎ ((slice_get text 0 ≡ Some 61) ⊎ (slice_get text 0 ≡ Some 64))
remark_byte text x h = elim h.0 [ inl e ↦ inl (ap (λ t. slice_get t 0) e) | inr e ↦ inr (inl e) ]

placed_byte : (text : List ℕ) (x : Line) → IsPlaced text x → slice_get text 0 ≡ Some 64
placed_byte text x h = ap (λ t. slice_get t 0) h.2

no_remark_placed : (text : List ℕ) (x y : Line) → IsRemark text x → IsPlaced text y → ⊥
no_remark_placed text x y h k = elim h.0 [
  | inl e ↦ none-some 64 (sym (ap (λ t. slice_get t 0) e) ∙ placed_byte text y k)
  | inr e ↦ absurd (omega (arith, same_Some 61 64 (sym e ∙ placed_byte text y k)))
]

one_plain : (text : List ℕ) (x y : Line) → IsPlain text x → IsPlain text y → x ≡ y
one_plain text x y h k =
    let kind : x.kind ≡ y.kind = one_kind x.kind y.kind text x.addr x.size y.addr y.size h.0 k.0 in
    let call : (x.addr ≡ y.addr) × (x.size ≡ y.size) = one_call x.kind text x.addr x.size y.addr y.size h.0 (subst (λ (z : Kind). IsCall z text y.addr y.size) (sym kind) k.0) in
    same_line x y kind call.0 call.1 (h.1 ∙ sym k.1)

-- the place and the call after it
one_cut : (text : List ℕ) (x y : Line) (h : IsPlaced text x) (k : IsPlaced text y) → (h.0 ≡ k.0) × (h.1 ≡ k.1)
one_cut text x y h k =
    elim (compared h.0 k.0 h.1 k.1 (sym (append_assoc h.0 (32 ∷ []) h.1) ∙ tail (tail (sym h.2 ∙ k.2)) ∙ append_assoc k.0 (32 ∷ []) k.1)) [
      | inl same ↦ same
      | inr other ↦ elim other [
        | inl q ↦ absurd (no_call_within x.kind y.kind h.1 k.1 x.addr x.size y.addr y.size h.4 k.4 q.0 q.1)
        | inr q ↦ absurd (no_call_within y.kind x.kind k.1 h.1 y.addr y.size x.addr x.size k.4 h.4 q.0 q.1)
      ]
    ]

one_placed : (text : List ℕ) (x y : Line) → IsPlaced text x → IsPlaced text y → x ≡ y
one_placed text x y h k =
    let cut : (h.0 ≡ k.0) × (h.1 ≡ k.1) = one_cut text x y h k in
    let there : IsCall y.kind h.1 y.addr y.size = subst (λ (t : List ℕ). IsCall y.kind t y.addr y.size) (sym cut.1) k.4 in
    let kind : x.kind ≡ y.kind = one_kind x.kind y.kind h.1 x.addr x.size y.addr y.size h.4 there in
    let call : (x.addr ≡ y.addr) × (x.size ≡ y.size) = one_call x.kind h.1 x.addr x.size y.addr y.size h.4 (subst (λ (z : Kind). IsCall z h.1 y.addr y.size) (sym kind) there) in
    same_line x y kind call.0 call.1 (h.5 ∙ ap (λ (p : List ℕ). (2, 2 + length p)) cut.0 ∙ sym k.5)

one : (text : List ℕ) (x y : Line) → IsRemark text x ⊎ (IsPlain text x ⊎ IsPlaced text x) → IsRemark text y ⊎ (IsPlain text y ⊎ IsPlaced text y) → x ≡ y
one text x y (inl h) (inl k) = h.1 ∙ sym k.1
one text x y (inl h) (inr (inl k)) = absurd (other_sign y.kind text y.addr y.size k.0 (remark_byte text x h))
one text x y (inl h) (inr (inr k)) = absurd (no_remark_placed text x y h k)
one text x y (inr (inl h)) (inl k) = absurd (other_sign x.kind text x.addr x.size h.0 (remark_byte text y k))
one text x y (inr (inl h)) (inr (inl k)) = one_plain text x y h k
one text x y (inr (inl h)) (inr (inr k)) = absurd (other_sign x.kind text x.addr x.size h.0 (inr (inr (placed_byte text y k))))
one text x y (inr (inr h)) (inl k) = absurd (no_remark_placed text y x k h)
one text x y (inr (inr h)) (inr (inl k)) = absurd (other_sign y.kind text y.addr y.size k.0 (inr (inr (placed_byte text x h))))
one text x y (inr (inr h)) (inr (inr k)) = one_placed text x y h k

pub one_line : (text : List ℕ) (x y : Line) → IsLine text x → IsLine text y → x ≡ y
unfolding IsLine
one_line text x y h k = one text x y h k
