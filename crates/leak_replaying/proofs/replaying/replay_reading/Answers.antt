-- From the lemmas of UnderwayLemmas.
use Rattle.std.proofs.Common.{◌∙◌, ◌++◌, Bool, subst}
use Rattle.std.proofs.lemmas.Result.{err_from_is_err_and}
use Rattle.leak_mtrace.proofs.PartLemmas.{fault_stays}
use Rattle.leak_replaying.specs.declared.replaying.Stop.{Stop}
use Rattle.leak_replaying.specs.Outcome.{IsOfLog}
use Rattle.leak_replaying.specs.Replaying.{IsStoppedBy}
use Rattle.leak_replaying.proofs.UnderwayLemmas.{begun, none_read, read_whole}
use Rattle.leak_replaying.proofs.replaying.replay_reading.Goals as goal

pub returns-in_err-log-clause-refused : goal.returns-in_err-log-clause-refused
returns-in_err-log-clause-refused g c =
    let p = err_from_is_err_and c.from_residual.result c.from_residual.ensures.1 in
    rw (p.1, p.2) (none_read _ _ _)

pub replay_log-requires-clause-begun : goal.replay_log-requires-clause-begun
replay_log-requires-clause-begun g c κs within =
    (c.args.reader.now, begun _ _ _ _ c.in_ok-log.ensures.open c.in_ok-log.ensures.empty (c.in_ok-log.ensures.come c.args.limit c.args.reader.now) c.in_ok-log.ensures.none)

pub finish_or_none-requires : goal.finish_or_none-requires
finish_or_none-requires g c =
    let now = c.in-Ok.ensures.ok c.args.reader.now (begun _ _ _ _ c.in_ok-log.ensures.open c.in_ok-log.ensures.empty (c.in_ok-log.ensures.come c.args.limit c.args.reader.now) c.in_ok-log.ensures.none) in
    (now.1.0.passed, now.0, now.1.0.has, now.1.1)

pub read_rest-requires : goal.read_rest-requires
read_rest-requires g c =
    let stop = subst (λ (s : Stop). IsStoppedBy g.R.ReadCalls.calls c.args.limit c.args.reader.now c.replay_log.new.reader c.replay_log.new.log s) c.in-Err-Log.field-0-is
    (c.in-Err-Log.ensures.stopped c.args.reader.now (begun _ _ _ _ c.in_ok-log.ensures.open c.in_ok-log.ensures.empty (c.in_ok-log.ensures.come c.args.limit c.args.reader.now) c.in_ok-log.ensures.none)) in
    (c.args.reader.now, stop.0, stop.1)

pub returns-in_err-read_rest-in-Err-Log-clause-refused : goal.returns-in_err-read_rest-in-Err-Log-clause-refused
returns-in_err-read_rest-in-Err-Log-clause-refused g c =
    let stop = subst (λ (s : Stop). IsStoppedBy g.R.ReadCalls.calls c.args.limit c.args.reader.now c.replay_log.new.reader c.replay_log.new.log s) c.in-Err-Log.field-0-is
    (c.in-Err-Log.ensures.stopped c.args.reader.now (begun _ _ _ _ c.in_ok-log.ensures.open c.in_ok-log.ensures.empty (c.in_ok-log.ensures.come c.args.limit c.args.reader.now) c.in_ok-log.ensures.none)) in
    let p = err_from_is_err_and c.from_residual-in_err-read_rest-in-Err-Log.result c.from_residual-in_err-read_rest-in-Err-Log.ensures.1 in
    rw (p.1, p.2) (c.in_err-read_rest-in-Err-Log.ensures.refused c.args.reader.now stop.0 stop.1)

pub returns-in-Ok-clause-ok : goal.returns-in-Ok-clause-ok
returns-in-Ok-clause-ok g c =
    let now = c.in-Ok.ensures.ok c.args.reader.now (begun _ _ _ _ c.in_ok-log.ensures.open c.in_ok-log.ensures.empty (c.in_ok-log.ensures.come c.args.limit c.args.reader.now) c.in_ok-log.ensures.none) in (
      now.1.0.passed ++ c.replay_log.new.log.window.items,
      subst (λ (s : Bool). IsOfLog s (now.1.0.passed ++ c.replay_log.new.log.window.items) c.finish_or_none.result) (c.in-Ok.ensures.spans ∙ c.in_ok-log.ensures.spans)
          (c.finish_or_none.ensures now.1.0.passed now.0 now.1.0.has now.1.1 c.in-Ok.ensures.end),
      read_whole _ _ _ _ _ _ _ now.1.0 c.in-Ok.ensures.end.ended,
    )

pub returns-in-Err-Read-clause-refused : goal.returns-in-Err-Read-clause-refused
returns-in-Err-Read-clause-refused g c =
    subst (λ (s : Stop). IsStoppedBy g.R.ReadCalls.calls c.args.limit c.args.reader.now c.replay_log.new.reader c.replay_log.new.log s) c.in-Err-Read.field-0-is
    (c.in-Err-Read.ensures.stopped c.args.reader.now (begun _ _ _ _ c.in_ok-log.ensures.open c.in_ok-log.ensures.empty (c.in_ok-log.ensures.come c.args.limit c.args.reader.now) c.in_ok-log.ensures.none))

pub returns-in_ok-read_rest-in-Err-Log-clause-ok : goal.returns-in_ok-read_rest-in-Err-Log-clause-ok
returns-in_ok-read_rest-in-Err-Log-clause-ok g c =
    let stop = subst (λ (s : Stop). IsStoppedBy g.R.ReadCalls.calls c.args.limit c.args.reader.now c.replay_log.new.reader c.replay_log.new.log s) c.in-Err-Log.field-0-is
    (c.in-Err-Log.ensures.stopped c.args.reader.now (begun _ _ _ _ c.in_ok-log.ensures.open c.in_ok-log.ensures.empty (c.in_ok-log.ensures.come c.args.limit c.args.reader.now) c.in_ok-log.ensures.none)) in
    let rest = c.in_ok-read_rest-in-Err-Log.ensures.ok in
    (stop.0 ++ rest.0, c.unread.ensures c.args.spans (stop.0 ++ rest.0) (λ short. fault_stays stop.0 rest.0 c.in-Err-Log.error (stop.2 short)), rest.1 c.args.reader.now stop.0 stop.1)
