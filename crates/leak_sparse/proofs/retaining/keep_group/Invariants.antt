-- The bits of the words that were tested, the rank of the next, and the words in front. The bits that are left begin somewhere.
use Rattle.std.proofs.Common.{◌≡◌, ℕ, List, ◌+◌, ◌%◌, ◌^◌, ◌<◌, ◌≤◌, count_ones}
use Rattle.leak_sparse.specs.Groups.{AreMoved}
use Rattle.leak_sparse.proofs.RestLemmas.{AreRest}
use Rattle.leak_sparse.proofs.RetainBitsLemmas.{AreBitsTo}
use Rattle.leak_sparse.proofs.retaining.keep_group.Given as goal

abbrev pub invariant-loop-rest : goal.invariant-loop-rest
invariant-loop-rest l = record {
  from : ℕ;
  left : AreRest l.fn.group.bits l.rest from;
  rank : l.rank ≡ l.fn.group.before + count_ones (l.fn.group.bits % 2 ^ from);
  order : l.left ≤ l.rank;
  narrow : l.bits < 2 ^ from;
  count : l.left ≡ l.front + count_ones l.bits;
  bits : (all : List ℕ) → AreMoved l.low l.high all l.fn.kept l.front l.fn.group.before → AreBitsTo l.low l.high all l.fn.group l.bits from;
  moved : (all : List ℕ) → AreMoved l.low l.high all l.fn.kept l.front l.fn.group.before → AreMoved l.low l.high all l.kept l.left l.rank;
}

abbrev pub decreases-loop-rest : goal.decreases-loop-rest
decreases-loop-rest l = l.rest
