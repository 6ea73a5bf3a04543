-- From the lemmas of Taken.
use Rattle.std.proofs.lemmas.Result.{err_from_is_err_and}
use Rattle.leak_streams.proofs.Taken.{gives_up}
use Rattle.leak_streams.proofs.pieces.Reading.next_into.Goals as goal

pub returns-in_err-count-clause-refused : goal.returns-in_err-count-clause-refused
returns-in_err-count-clause-refused g c =
    let p = err_from_is_err_and c.from_residual.result c.from_residual.ensures.1 in
    rw (p.1, p.2, ← c.self.view_is)
    (gives_up g.R.ReadCalls.calls _ c.saturating_sub-left.result _ _ _ c.read_retrying.new.buffer c.read_retrying.new.interruptions _ c.saturating_sub-left.ensures
    c.in_err-count.ensures.come)
