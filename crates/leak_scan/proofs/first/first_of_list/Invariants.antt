-- The words before the rest lead nowhere.
use Rattle.std.proofs.Common.{◌≡◌, length}
use Rattle.leak_scan.specs.Targets.{targets_of}
use Rattle.leak_scan.proofs.first.first_of_list.Given as goal

abbrev pub invariant-loop-word : goal.invariant-loop-word
invariant-loop-word g l = targets_of (g.L.Lookup.index l.lookup) l.words ≡ targets_of (g.L.Lookup.index l.lookup) l.rest

abbrev pub decreases-loop-word : goal.decreases-loop-word
decreases-loop-word g l = length l.rest
