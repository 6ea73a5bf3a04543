-- There are 101 blocks and two lists.
use Rattle.std.proofs.Common.{◌≡◌, length}
use Rattle.leak_tests_reading.proofs.marks.in_depth.Given as goal

abbrev pub invariant-loop-i : goal.invariant-loop-i
invariant-loop-i l = (l.claims.blocks ≡ 101) × (length l.claims.lists ≡ 2)
