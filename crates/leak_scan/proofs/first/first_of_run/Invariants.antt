-- The words before the rest lead nowhere.
use Rattle.std.proofs.Common.{◌≡◌, length}
use Rattle.leak_scan.specs.Positions.{words_in}
use Rattle.leak_scan.specs.Targets.{targets_of}
use Rattle.leak_scan.proofs.first.first_of_run.Given as goal

abbrev pub invariant-loop-rest : goal.invariant-loop-rest
invariant-loop-rest g l = targets_of (g.L.Lookup.index l.lookup) (words_in l.bytes) ≡ targets_of (g.L.Lookup.index l.lookup) (words_in l.rest)

abbrev pub decreases-loop-rest : goal.decreases-loop-rest
decreases-loop-rest g l = length l.rest
