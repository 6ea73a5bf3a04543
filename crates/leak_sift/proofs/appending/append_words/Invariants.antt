-- The words so far.
use Rattle.std.proofs.Common.{◌≡◌, ◌-◌, ◌≤◌, ◌++◌, take}
use Rattle.leak_sift.specs.Sifted.{sifted}
use Rattle.leak_sift.proofs.appending.append_words.Given as goal

abbrev pub invariant-loop-done : goal.invariant-loop-done
invariant-loop-done l = record {
  within : l.done ≤ l.count;
  words : l.words ≡ l.initial.words ++ take l.done (sifted l.initial.sieve l.initial.places l.offset l.bytes);
  segments : l.places ≡ l.initial.places;
  rule : l.sieve ≡ l.initial.sieve;
}

abbrev pub decreases-loop-done : goal.decreases-loop-done
decreases-loop-done l = l.count - l.done
