-- The one part or the other does not read.
use Rattle.std.proofs.Common.{ℕ, ◌+◌, List, sym, subst}
use Rattle.std.proofs.lemmas.List.{take_rest}
use Rattle.leak_mtrace.specs.Number.{IsSize, IsPairAround}
use Rattle.leak_mtrace.proofs.DecideLemmas.{decides_none}
use Rattle.leak_mtrace.proofs.number.pair_around.Goals as goal

pub returns-in_err-addr : goal.returns-in_err-addr
returns-in_err-addr c = decides_none (λ (p : ℕ × ℕ). IsPairAround c.args.text.now c.args.space p.0 p.1) _ c.from_residual.ensures (λ p h. c.in_err-addr.ensures p.0 h.0)

pub returns-in_err-size : goal.returns-in_err-size
returns-in_err-size c = decides_none (λ (p : ℕ × ℕ). IsPairAround c.args.text.now c.args.space p.0 p.1) _ c.from_residual-in_err-size.ensures
    (λ p h. c.in_err-size.ensures p.1 (subst (λ (t : List ℕ). IsSize t p.1) (sym (take_rest c.args.text.now (c.args.space + 1))) h.1))
