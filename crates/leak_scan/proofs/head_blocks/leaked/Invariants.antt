-- An entry for each mark so far.
use Rattle.std.proofs.Common.{◌≡◌, not, map, take}
use Rattle.leak_scan.proofs.head_blocks.leaked.Given as goal

abbrev pub invariant-loop-marked : goal.invariant-loop-marked
invariant-loop-marked l = l.leaked.items ≡ map not (take l.marked-index l.set)
