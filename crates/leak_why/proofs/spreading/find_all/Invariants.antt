-- The targets so far were found.
use Rattle.std.proofs.Common.{◌≡◌, ◌++◌}
use Rattle.leak_pool.specs.Alone.{AreMarks}
use Rattle.leak_why.specs.ReachedBlocks.{AreFound, blocks_of}
use Rattle.leak_why.proofs.spreading.find_all.Given as goal

abbrev pub invariant-loop-block : goal.invariant-loop-block
invariant-loop-block g l = record {
  targets : l.yielded ++ l.block-iterator ≡ l.initial.block-iterator;
  marks : AreMarks l.seen (blocks_of l.entries.items);
  found : AreFound l.source l.yielded l.initial.entries.items l.entries.items;
}
