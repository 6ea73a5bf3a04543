-- The reading has gone on to the bytes that are held.
use Rattle.std.proofs.Common.{◌-◌, length}
use Rattle.leak_passing.specs.Underway.{GoesOn, place}
use Rattle.leak_passing.proofs.begun.find_head.Given as goal

abbrev pub invariant-pieces : goal.invariant-pieces
invariant-pieces g l =
    GoesOn g.R.ReadCalls.calls l.limit (place l.fn.reader l.fn.reading l.fn.held.items) (place l.reader l.reading l.held.items)

abbrev pub decreases-pieces : goal.decreases-pieces
decreases-pieces g l = l.limit - length l.held.items
