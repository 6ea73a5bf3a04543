-- No byte was read so far, and the reading may go on.
use Rattle.std.proofs.Common.{◌-◌, ◌<◌}
use Rattle.leak_streams.proofs.Taken.{KeepsComing}
use Rattle.leak_streams.proofs.pieces.read_retrying.Given as goal

abbrev pub invariant-retrying : goal.invariant-retrying
invariant-retrying g l = record {
  few : l.interruptions < 1000000;
  come : KeepsComing g.R.ReadCalls.calls l.left l.fn.reader l.fn.interruptions l.reader l.interruptions;
}

abbrev pub decreases-retrying : goal.decreases-retrying
decreases-retrying g l = 1000000 - l.interruptions
