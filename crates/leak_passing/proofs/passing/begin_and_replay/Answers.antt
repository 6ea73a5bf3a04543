-- From the lemmas of ReaderLemmas.
use Rattle.leak_passing.proofs.ReaderLemmas.{begins_both, core_refused, log_refused}
use Rattle.leak_passing.proofs.passing.begin_and_replay.Goals as goal

pub returns-in-Err-clause-refused : goal.returns-in-Err-clause-refused
returns-in-Err-clause-refused g c =
    core_refused g.R.ReadCalls.calls c.args.limits c.args.skip c.args.readers.now _ c.begin_core.new.reader _ c.requires c.in-Err.ensures.refused

pub returns-in-Err-replay_reading-clause-refused : goal.returns-in-Err-replay_reading-clause-refused
returns-in-Err-replay_reading-clause-refused g c =
    log_refused g.R.ReadCalls.calls c.args.limits c.args.skip c.args.readers.now _ _ c.begin_core.new.reader c.replay_reading.new.reader c.in-Ok.begun _ c.requires
    c.in-Ok.ensures.ok c.in-Err-replay_reading.ensures.refused

pub returns-in-Ok-replay_reading-clause-ok : goal.returns-in-Ok-replay_reading-clause-ok
returns-in-Ok-replay_reading-clause-ok g c =
    let read = c.in-Ok-replay_reading.ensures.ok in (
      read.0,
      read.1,
      begins_both g.R.ReadCalls.calls c.args.limits c.args.skip c.args.readers.now _ _ c.begin_core.new.reader c.replay_reading.new.reader c.in-Ok.begun read.0 c.requires
          c.in-Ok.ensures.ok read.2,
    )
