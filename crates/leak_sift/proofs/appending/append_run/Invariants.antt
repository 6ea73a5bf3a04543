-- The words so far.
use Rattle.std.proofs.Common.{◌≡◌, ◌-◌, ◌≤◌, ◌++◌, take}
use Rattle.leak_sift.specs.Sifted.{run_of}
use Rattle.leak_sift.proofs.appending.append_run.Given as goal

abbrev pub invariant-loop-done : goal.invariant-loop-done
invariant-loop-done l = record {
  within : l.done ≤ l.count;
  words : l.words ≡ l.initial.words ++ take l.done (run_of l.initial.sieve l.place l.bytes);
  same : l.sieve ≡ l.initial.sieve;
}

abbrev pub decreases-loop-done : goal.decreases-loop-done
decreases-loop-done l = l.count - l.done
