-- Around the usual space, or around the first.
use Rattle.std.proofs.Common.{ℕ}
use Rattle.leak_mtrace.specs.Number.{IsPair}
use Rattle.leak_mtrace.proofs.DecideLemmas.{decides_none}
use Rattle.leak_mtrace.proofs.PairLemmas.{pair_no_space, around}
use Rattle.leak_mtrace.proofs.number.address_and_size.Goals as goal

pub returns-in_err-space : goal.returns-in_err-space
returns-in_err-space c = decides_none (λ (p : ℕ × ℕ). IsPair c.args.text.now p.0 p.1) _ c.from_residual.ensures (pair_no_space c.args.text.now c.in_err-space.ensures)

pub returns : goal.returns
returns c = around c.args.text.now _ c.pair_around-2.result c.in_ok-space.ensures c.pair_around-2.ensures
