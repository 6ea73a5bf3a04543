-- From the lemmas of Taken.
use Rattle.leak_streams.proofs.Taken.{at_end, by_bytes, by_interruption, stopped_here, turns_more}
use Rattle.leak_streams.proofs.pieces.read_retrying.Goals as goal

pub returns-in-End-clause-come : goal.returns-in-End-clause-come
returns-in-End-clause-come g c =
    at_end g.R.ReadCalls.calls _ _ _ _ _ _ _ _ _ _ _ _ c.saturating_add.ensures c.min-room.ensures c.requires.room c.retrying.auto.buffer c.read_some-answer.auto.piece
    c.read_some-answer.ensures.bound c.read_some-answer.ensures.call c.retrying.invariant.come c.in-End.ensures

pub returns-in-Bytes-clause-come : goal.returns-in-Bytes-clause-come
returns-in-Bytes-clause-come g c =
    by_bytes g.R.ReadCalls.calls _ _ _ _ _ _ _ _ _ _ _ _ c.saturating_add.ensures c.min-room.ensures c.requires.room c.retrying.auto.buffer c.read_some-answer.auto.piece
    c.read_some-answer.ensures.bound c.read_some-answer.ensures.call c.retrying.invariant.come _ c.in-Bytes.ensures

pub retrying-preserved : goal.retrying-preserved
retrying-preserved g c = record {
  few = (turns_more c.args.left c.retrying.interruptions c.read_some-answer.result _ c.in-Again.ensures).1;
  come = by_interruption g.R.ReadCalls.calls _ _ _ _ _ _ _ _ _ _ _ _ c.saturating_add.ensures c.min-room.ensures c.requires.room c.retrying.auto.buffer c.read_some-answer.auto.piece
      c.read_some-answer.ensures.bound c.read_some-answer.ensures.call c.retrying.invariant.come _ c.in-Again.ensures;
}

pub returns-in-Stop-clause-come : goal.returns-in-Stop-clause-come
returns-in-Stop-clause-come g c =
    stopped_here g.R.ReadCalls.calls _ _ _ _ _ _ _ _ _ _ _ _ c.saturating_add.ensures c.min-room.ensures c.requires.room c.retrying.auto.buffer c.read_some-answer.auto.piece
    c.read_some-answer.ensures.bound c.read_some-answer.ensures.call c.retrying.invariant.come _ c.in-Stop.ensures
