-- The words so far are dropped.
use Rattle.std.proofs.Common.{◌-◌, ◌≤◌, ◌≡◌}
use Rattle.leak_sift.specs.Sifted.{AreZero, run_of}
use Rattle.leak_sift.proofs.sieve.Sieve.next_kept.Given as goal

abbrev pub invariant-loop-number : goal.invariant-loop-number
invariant-loop-number l = record {
  above : l.from ≤ l.number;
  below : l.number ≤ l.count;
  dropped : AreZero (run_of l.initial.self l.place l.bytes) l.from l.number;
  same : l.self ≡ l.initial.self;
}

abbrev pub decreases-loop-number : goal.decreases-loop-number
decreases-loop-number l = l.count - l.number
