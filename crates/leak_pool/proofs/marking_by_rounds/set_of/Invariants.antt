-- The tests of the blocks so far.
use Rattle.std.proofs.Common.{◌≡◌}
use Rattle.leak_marks.specs.Lists.{mark_of}
use Rattle.leak_pool.specs.Marking.{IsSet}
use Rattle.leak_pool.proofs.marking_by_rounds.set_of.Given as goal

abbrev pub invariant-loop-block : goal.invariant-loop-block
invariant-loop-block l = IsSet l.set.items l.block (λ b. mark_of l.words b ≡ 1)
