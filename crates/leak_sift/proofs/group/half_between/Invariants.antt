-- The bits of the words behind.
use Rattle.std.proofs.Common.{◌≤◌, ◌+◌, ◌-◌}
use Rattle.leak_sift.specs.Grouped.{AreBits}
use Rattle.leak_sparse.specs.Pushed.{word_of}
use Rattle.leak_sparse.specs.Words.{is_between}
use Rattle.leak_sift.proofs.group.half_between.Given as goal

abbrev pub invariant-loop-left : goal.invariant-loop-left
invariant-loop-left l = record {
  within : l.left ≤ 32;
  bits : AreBits (λ k. is_between l.fn.low l.fn.high (word_of l.fn.words (l.left + k))) (32 - l.left) l.bits;
}

abbrev pub decreases-loop-left : goal.decreases-loop-left
decreases-loop-left l = l.left
