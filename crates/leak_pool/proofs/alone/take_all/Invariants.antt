-- The targets so far were taken.
use Rattle.std.proofs.Common.{◌≡◌, ◌++◌}
use Rattle.leak_pool.specs.Alone.{AreMarks, AreTaken}
use Rattle.leak_pool.proofs.alone.take_all.Given as goal

abbrev pub invariant-loop-block : goal.invariant-loop-block
invariant-loop-block g l = record {
  targets : l.yielded ++ l.block-iterator ≡ l.initial.block-iterator;
  marks : AreMarks l.set l.list.items;
  taken : AreTaken l.yielded l.initial.list.items l.list.items;
}
