-- The groups so far have their new bits, and their words that stay are in front.
use Rattle.std.proofs.Common.{take}
use Rattle.leak_sparse.specs.Groups.{AreMoved, kept_in}
use Rattle.leak_sparse.proofs.RetainBitsLemmas.{AreGroupsTo}
use Rattle.leak_sparse.proofs.retaining.keep_between.Given as goal

abbrev pub invariant-loop-number : goal.invariant-loop-number
invariant-loop-number l = record {
  groups : AreGroupsTo l.low l.high l.fn.kept l.fn.groups l.groups l.number l.front;
  moved : AreMoved l.low l.high l.fn.kept l.kept l.front (kept_in (take l.number l.fn.groups));
}
