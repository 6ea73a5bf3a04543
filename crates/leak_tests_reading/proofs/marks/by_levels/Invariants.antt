-- There are 101 blocks and two lists.
use Rattle.std.proofs.Common.{◌≡◌, length}
use Rattle.leak_tests_reading.proofs.marks.by_levels.Given as goal

abbrev pub invariant-loop-block : goal.invariant-loop-block
invariant-loop-block l = (l.claims.blocks ≡ 101) × (length l.claims.lists ≡ 2)
