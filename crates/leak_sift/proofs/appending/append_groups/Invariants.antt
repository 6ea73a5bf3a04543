-- The words so far, which fill whole groups.
use Rattle.std.proofs.Common.{◌≡◌, ◌-◌, ◌%◌, ◌≤◌, ◌++◌, take}
use Rattle.leak_sift.specs.Sifted.{run_of}
use Rattle.leak_sift.proofs.appending.append_groups.Given as goal

abbrev pub invariant-loop-done : goal.invariant-loop-done
invariant-loop-done l = record {
  within : l.done ≤ l.count;
  groups : l.done % 64 ≡ 0;
  words : l.words ≡ l.fn.words ++ take l.done (run_of l.fn.sieve l.place l.bytes);
  same : l.sieve ≡ l.fn.sieve;
}

abbrev pub decreases-loop-done : goal.decreases-loop-done
decreases-loop-done l = l.count - l.done
