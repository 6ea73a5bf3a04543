-- Pieces so far were read, and let go.
use Rattle.std.proofs.Common.{ℕ, ◌-◌, List, [], false}
use Rattle.leak_replaying.specs.Replaying.{HoldsMore}
use Rattle.leak_replaying.proofs.replaying.read_rest.Given as goal

abbrev pub invariant-pieces : goal.invariant-pieces
invariant-pieces g l =
    (more : List ℕ) × HoldsMore g.R.ReadCalls.calls l.limit l.fn.reader l.fn.log.reading [] l.reader l.reading false more

abbrev pub decreases-pieces : goal.decreases-pieces
decreases-pieces g l = l.limit - l.reading.taken
