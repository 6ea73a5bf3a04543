-- The reading has come to the bytes so far.
use Rattle.std.proofs.Common.{◌-◌, length}
use Rattle.leak_streams.specs.Pieces.{HasComeTo}
use Rattle.leak_streams.proofs.readers.read_sized.Given as goal

abbrev pub invariant-pieces : goal.invariant-pieces
invariant-pieces g l =
    HasComeTo g.R.ReadCalls.calls l.limit l.initial.reader l.reader l.reading l.bytes.items

abbrev pub decreases-pieces : goal.decreases-pieces
decreases-pieces g l = l.limit - length l.bytes.items
