-- Each has a sign and a space, and no body after them.
use Rattle.std.proofs.Common.{◌≡◌, ℕ, inl, inr, refl, sym, subst, ap, ◌∙◌, List, [], ◌∷◌, ◌++◌, Some, None, slice_get, ◌-◌, length, take, drop, arith, codes}
use Rattle.std.proofs.lemmas.Option.{same_Some}
use Rattle.leak_mtrace.specs.declared.line.Kind.{Kind}
use Rattle.leak_mtrace.specs.declared.line.Kind.TheVariants.{Alloc, Free, MoveOut, MoveIn, Failed, Remark}
use Rattle.leak_mtrace.specs.declared.line.Line.{Line}
use Rattle.leak_mtrace.specs.Number.{IsAddress, IsSize, IsPair}
use Rattle.leak_mtrace.specs.Line.{IsBody, IsLine, sign_of}
use Rattle.leak_mtrace.proofs.SplitLemmas.{tail, head, HasNoSpace, no_space_in, compared, digits_no_space}
use Rattle.leak_mtrace.proofs.CallLemmas.{Begins, address_begins, begins_append, size_no_space, address_no_space}
use Rattle.leak_mtrace.proofs.BodyLemmas.{call_front, no_body}
use Rattle.leak_mtrace.proofs.LineLemmas.{line_plain}
use Rattle.leak_mtrace.proofs.laws.refused_lines.Goals as goal

-- an allocation's line with no body
no_alloc : (body : List ℕ) → ((p : ℕ × ℕ) → IsPair (take (length (43 ∷ 32 ∷ body) - 2) (drop 2 (43 ∷ 32 ∷ body))) p.0 p.1 → ⊥) → (x : Line) → IsLine (43 ∷ 32 ∷ body) x → ⊥
no_alloc body never = line_plain (43 ∷ 32 ∷ body) None (omega arith) (λ e. absurd (omega (arith, e))) (λ l e f. absurd (omega (arith, e))) (λ x h. no_body (43 ∷ 32 ∷ body) Alloc refl never x.kind x.addr x.size h.0)

no_free : (body : List ℕ) → ((p : ℕ × ℕ) → IsBody Free (take (length (45 ∷ 32 ∷ body) - 2) (drop 2 (45 ∷ 32 ∷ body))) p.0 p.1 → ⊥) → (x : Line) → IsLine (45 ∷ 32 ∷ body) x → ⊥
no_free body never = line_plain (45 ∷ 32 ∷ body) None (omega arith) (λ e. absurd (omega (arith, e))) (λ l e f. absurd (omega (arith, e))) (λ x h. no_body (45 ∷ 32 ∷ body) Free refl never x.kind x.addr x.size h.0)

-- an address and a size around the one space
pair_cut : (text a s : List ℕ) (m n : ℕ) → text ≡ a ++ 32 ∷ s → HasNoSpace s → IsPair text m n → IsAddress a m × IsSize s n
pair_cut text a s m n e plain h = elim (compared h.0 a h.1 s (sym h.2 ∙ e)) [
  | inl same ↦ (subst (λ (t : List ℕ). IsAddress t m) same.0 h.3, subst (λ (t : List ℕ). IsSize t n) same.1 h.4)
  | inr other ↦ elim other [ inl q ↦ absurd (no_space_in h.1 q.0 s (size_no_space h.1 n h.4) q.1) | inr q ↦ absurd (no_space_in s q.0 h.1 plain q.1) ]
]

decimal : (n : ℕ) → IsSize (codes "20") n → ⊥
decimal n (inl h) = absurd (omega (arith, head h.0))
decimal n (inr h) = absurd (omega (arith, head h.1))

upper_case_prefix : (n : ℕ) → IsAddress (codes "0X10100") n → ⊥
upper_case_prefix n (inl h) = absurd (omega (arith, head h.0))
upper_case_prefix n (inr h) = absurd (omega (arith, head (tail h.1)))

too_long : (n : ℕ) → IsAddress (codes "0x10000000000000000") n → ⊥
too_long n (inl h) = absurd (omega (arith, head h.0))
too_long n (inr h) = let e : 17 ≡ length h.0 = ap length (tail (tail h.1)) in absurd (omega (arith, h.3))

begins_with_space : (text : List ℕ) (p : ℕ × ℕ) → slice_get text 0 ≡ Some 32 → IsPair text p.0 p.1 → ⊥
begins_with_space text p e h = elim (subst Begins (sym h.2) (begins_append h.0 (32 ∷ h.1) (address_begins h.0 p.0 h.3))) [
  | inl b ↦ absurd (omega (arith, same_Some 32 40 (sym e ∙ b)))
  | inr b ↦ absurd (omega (arith, same_Some 32 48 (sym e ∙ b)))
]

no_star : (k : Kind) → 42 ≡ sign_of k → ⊥
no_star Alloc e = absurd (omega (arith, e))
no_star Free e = absurd (omega (arith, e))
no_star MoveOut e = absurd (omega (arith, e))
no_star MoveIn e = absurd (omega (arith, e))
no_star Failed e = absurd (omega (arith, e))
no_star Remark e = absurd (omega (arith, e))

pub returns : goal.returns
returns c = record {
  decimal_size = no_alloc (codes "0x10100 20") (λ p h. decimal p.1 (pair_cut _ (codes "0x10100") (codes "20") p.0 p.1 refl (digits_no_space (codes "20") refl) h).1);
  two_spaces = no_alloc (codes " 0x10100 0x20") (λ p h. begins_with_space (codes " 0x10100 0x20") p refl h);
  upper_case = no_alloc (codes "0X10100 0x20") (λ p h. upper_case_prefix p.0 (pair_cut _ (codes "0X10100") (codes "0x20") p.0 p.1 refl ((λ e. absurd (omega (arith, e))), ((λ e. absurd (omega (arith, e))), digits_no_space (codes "20") refl)) h).0);
  seventeen_digits = no_alloc (codes "0x10000000000000000 0x1") (λ p h. too_long p.0 (pair_cut _ (codes "0x10000000000000000") (codes "0x1") p.0 p.1 refl ((λ e. absurd (omega (arith, e))), ((λ e. absurd (omega (arith, e))), digits_no_space (codes "1") refl)) h).0);
  space_behind = no_free (codes "0x10100 ") (λ p h. no_space_in (codes "0x10100 ") (codes "0x10100") [] (address_no_space (codes "0x10100 ") p.0 h.0) refl);
  unsized = no_alloc (codes "0x10100") (λ p h. no_space_in (codes "0x10100") h.0 h.1 ((λ e. absurd (omega (arith, e))), ((λ e. absurd (omega (arith, e))), digits_no_space (codes "10100") refl)) h.2);
  other_sign = line_plain (codes "* 0x10100") None (omega arith) (λ e. absurd (omega (arith, e))) (λ l e f. absurd (omega (arith, e))) (λ x h. no_star x.kind (call_front x.kind (codes "* 0x10100") x.addr x.size h.0).1);
}
