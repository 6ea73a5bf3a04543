-- From the lemmas of RowLemmas.
use Rattle.std.specs.Fork.{slice_chunk}
use Rattle.leak_pool.specs.Edges.{AreRowsOrOver, IsRowOrOver}
use Rattle.leak_pool.proofs.RowLemmas.{ok_some, rows_more}
use Rattle.leak_pool.proofs.rows.with_row.Goals as goal

pub returns : goal.returns
returns c targets size room count inside first second =
    rows_more targets size room count c.in-Some.all.items c.push.new.self.items c.in-Some-2.last
    (ok_some (AreRowsOrOver targets size room count) _ _ _ c.in_ok-all.was c.in-Some.is first)
    (ok_some (IsRowOrOver (slice_chunk targets size count) room) _ _ _ c.in_ok-last.was c.in-Some-2.is second)
    c.in_ok-push.ensures.items
