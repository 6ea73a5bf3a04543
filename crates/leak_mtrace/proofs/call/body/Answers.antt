-- By the kind.
use Rattle.std.proofs.Common.{ℕ, inl, inr, sym, subst}
use Rattle.leak_mtrace.specs.declared.line.Kind.{Kind}
use Rattle.leak_mtrace.specs.Decided.{Decides}
use Rattle.leak_mtrace.specs.Line.{IsBody}
use Rattle.leak_mtrace.proofs.DecideLemmas.{decides_none}
use Rattle.leak_mtrace.proofs.call.body.Goals as goal

pub returns-in_err-address-in-Free : goal.returns-in_err-address-in-Free
returns-in_err-address-in-Free c = decides_none (λ (p : ℕ × ℕ). IsBody c.args.kind c.args.text.now p.0 p.1) _ c.from_residual.ensures
    (λ p. elim c.in-Free.is [
      | inl e ↦ subst (λ (k : Kind). IsBody k c.args.text.now p.0 p.1 → ⊥) (sym e) (λ b. c.in_err-address-in-Free.ensures p.0 b.0)
      | inr e ↦ subst (λ (k : Kind). IsBody k c.args.text.now p.0 p.1 → ⊥) (sym e) (λ b. c.in_err-address-in-Free.ensures p.0 b.0)
    ])

pub returns-in-Alloc : goal.returns-in-Alloc
returns-in-Alloc c = elim c.in-Alloc.is [
  | inl e ↦ subst (λ (k : Kind). Decides (λ (p : ℕ × ℕ). IsBody k c.args.text.now p.0 p.1) c.address_and_size.result) (sym e) c.address_and_size.ensures
  | inr f ↦ elim f [
    | inl e ↦ subst (λ (k : Kind). Decides (λ (p : ℕ × ℕ). IsBody k c.args.text.now p.0 p.1) c.address_and_size.result) (sym e) c.address_and_size.ensures
    | inr e ↦ subst (λ (k : Kind). Decides (λ (p : ℕ × ℕ). IsBody k c.args.text.now p.0 p.1) c.address_and_size.result) (sym e) c.address_and_size.ensures
  ]
]
