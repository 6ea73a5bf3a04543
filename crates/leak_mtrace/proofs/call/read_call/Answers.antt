-- By the sign, and then by what follows it.
use Rattle.std.proofs.Common.{arith}
use Rattle.leak_mtrace.specs.declared.call.Call.{Call}
use Rattle.leak_mtrace.specs.Line.{IsCall}
use Rattle.leak_mtrace.proofs.DecideLemmas.{decides_none}
use Rattle.leak_mtrace.proofs.BodyLemmas.{call_front, call_not_remark, no_body, body_call, two_and_rest}
use Rattle.leak_mtrace.proofs.call.read_call.Goals as goal

pub returns-in_err-kind : goal.returns-in_err-kind
returns-in_err-kind c = decides_none (λ (x : Call). IsCall x.kind c.args.text.now x.addr x.size) _ c.from_residual.ensures
    (λ x h. c.in_err-kind.ensures x.kind ((call_front x.kind c.args.text.now x.addr x.size h).1, call_not_remark x.kind c.args.text.now x.addr x.size h))

pub returns-in_err-addr : goal.returns-in_err-addr
returns-in_err-addr c = decides_none (λ (x : Call). IsCall x.kind c.args.text.now x.addr x.size) _ c.from_residual-in_err-addr.ensures
    (λ x h. no_body c.args.text.now c.in_ok-kind.kind c.in_ok-kind.ensures.0 c.in_err-addr.ensures x.kind x.addr x.size h)

pub returns : goal.returns
returns c = body_call c.in_ok-kind.kind c.args.text.now _ c.in_ok-addr.addr c.in_ok-addr.size (two_and_rest c.args.text.now _ _ c.in-32.len_at_least c.in_ok-kind.ensures.0 (omega arith)) c.in_ok-addr.ensures
