-- Of the first `apart` headers no two overlap; of the first `met` two do.
use Rattle.std.proofs.Common.{◌≡◌, ◌-◌, ◌<◌, ◌≤◌, true, false}
use Rattle.leak_elf.specs.Segments.{meet_within}
use Rattle.leak_elf.proofs.refusal.first_overlap.Given as goal

abbrev pub decreases-loop-met : goal.decreases-loop-met
decreases-loop-met l = l.met - l.apart

abbrev pub invariant-loop-met : goal.invariant-loop-met
invariant-loop-met l = record {
  order : l.apart < l.met;
  bound : l.met ≤ l.count;
  low : meet_within l.headers l.apart ≡ false;
  high : meet_within l.headers l.met ≡ true;
}
