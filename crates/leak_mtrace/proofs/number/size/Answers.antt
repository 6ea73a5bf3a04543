-- Not the one text, so only hexadecimal.
use Rattle.std.proofs.Common.{◌≡◌, ℕ, codes, sym, ◌∙◌, true≢false}
use Rattle.std.proofs.lemmas.Slice.Eq.{slice_eq-Decides}
use Rattle.std.proofs.lemmas.Bool.Decides.{Decides-eqb}
use Rattle.leak_mtrace.specs.Number.{IsHex}
use Rattle.leak_mtrace.proofs.DecideLemmas.{or_else}
use Rattle.leak_mtrace.proofs.number.size.Goals as goal

pub returns-else-eq : goal.returns-else-eq
returns-else-eq c =
    or_else (λ (n : ℕ). (c.args.text.now ≡ codes "0") × (n ≡ 0)) (IsHex c.args.text.now) c.hex.result
    (λ n h. true≢false (sym ((slice_eq-Decides Decides-eqb _ _ _ c.eq.ensures).1 (h.0 ∙ sym c.as_slice.ensures)) ∙ c.if-eq.false))
    c.hex.ensures
