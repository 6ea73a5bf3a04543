-- The writing has come so far, and goes on.
use Rattle.std.proofs.Common.{◌≤◌, ◌<◌, ◌-◌, ◌+◌, length}
use Rattle.leak_streams.specs.Writes.{HasCome}
use Rattle.leak_streams.proofs.writers.write.Given as goal

abbrev pub invariant-loop-now : goal.invariant-loop-now
invariant-loop-now g l = record {
  within : l.now.written ≤ length l.text;
  few : l.now.interruptions < 1000000;
  come : HasCome g.W.WriteCalls.calls l.text l.initial.writer l.writer l.now;
}

abbrev pub decreases-loop-now : goal.decreases-loop-now
decreases-loop-now g l = (length l.text - l.now.written) + (1000000 - l.now.interruptions)
