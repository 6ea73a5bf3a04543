-- The pieces so far were sifted, but for the last.
use Rattle.std.proofs.Common.{ℕ, ◌-◌, List}
use Rattle.leak_passing.specs.Sifting.{HasSifted}
use Rattle.leak_passing.proofs.sifted.sift_pieces.Given as goal

abbrev pub invariant-pieces : goal.invariant-pieces
invariant-pieces g l =
    (more : List ℕ) × HasSifted g.R.ReadCalls.calls l.limit l.fn.reader l.fn.reading l.fn.sifting l.reader l.ahead l.sifting more

abbrev pub decreases-pieces : goal.decreases-pieces
decreases-pieces g l = l.limit - l.ahead.taken
