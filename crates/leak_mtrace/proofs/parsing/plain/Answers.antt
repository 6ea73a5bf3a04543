-- No call.
use Rattle.leak_mtrace.specs.Line.{IsPlain}
use Rattle.leak_mtrace.proofs.DecideLemmas.{decides_none}
use Rattle.leak_mtrace.proofs.parsing.plain.Goals as goal

pub returns-in_err-call : goal.returns-in_err-call
returns-in_err-call c = decides_none (IsPlain c.args.text.now) _ c.from_residual.ensures (λ x h. c.in_err-call.ensures (record { kind = x.kind; addr = x.addr; size = x.size }) h.0)
