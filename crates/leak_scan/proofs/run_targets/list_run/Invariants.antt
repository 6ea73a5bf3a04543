-- What is listed and what the rest leads to are all.
use Rattle.std.proofs.Common.{◌≡◌, ◌≤◌, ◌++◌, length, take}
use Rattle.leak_scan.specs.Positions.{words_in}
use Rattle.leak_scan.specs.Targets.{targets_of}
use Rattle.leak_scan.proofs.run_targets.list_run.Given as goal

abbrev pub invariant-loop-rest : goal.invariant-loop-rest
invariant-loop-rest g l = record {
  within : length l.targets.items ≤ l.room;
  kept : take (length l.initial.targets.items) l.targets.items ≡ l.initial.targets.items;
  listed : l.targets.items ++ targets_of (g.L.Lookup.index l.lookup) (words_in l.rest) ≡ l.initial.targets.items ++ targets_of (g.L.Lookup.index l.lookup) (words_in l.run);
}

abbrev pub decreases-loop-rest : goal.decreases-loop-rest
decreases-loop-rest g l = length l.rest
