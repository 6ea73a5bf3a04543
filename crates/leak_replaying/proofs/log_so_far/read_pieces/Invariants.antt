-- The pieces so far are held.
use Rattle.std.proofs.Common.{◌-◌, false}
use Rattle.leak_replaying.specs.Replaying.{HoldsMore}
use Rattle.leak_replaying.proofs.log_so_far.read_pieces.Given as goal

abbrev pub invariant-pieces : goal.invariant-pieces
invariant-pieces g l =
    HoldsMore g.R.ReadCalls.calls l.limit l.initial.reader l.initial.reading l.initial.held.items l.reader l.reading false l.held.items

abbrev pub decreases-pieces : goal.decreases-pieces
decreases-pieces g l = l.limit - l.reading.taken
