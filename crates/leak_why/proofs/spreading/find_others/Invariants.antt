-- The first entries were scanned, breadth first.
use Rattle.std.proofs.Common.{◌-◌, ◌≤◌, length}
use Rattle.leak_roots.specs.Places.{Places}
use Rattle.leak_pool.specs.Alone.{AreMarks}
use Rattle.leak_why.specs.ReachedBlocks.{AreRooted, AreFollowed, blocks_of}
use Rattle.leak_why.proofs.spreading.find_others.Given as goal

abbrev pub invariant-follow : goal.invariant-follow
invariant-follow g l = record {
  marks : AreMarks l.seen (blocks_of l.entries.items);
  within : l.scanned ≤ length l.entries.items;
  followed : (p : Places) → AreRooted (g.W.Words.word_at l.words) (g.L.Lookup.index l.lookup) p l.initial.entries.items → AreFollowed (g.W.Words.word_at l.words) (g.L.Lookup.index l.lookup) p l.entries.items l.scanned;
}

abbrev pub decreases-follow : goal.decreases-follow
decreases-follow g l = length l.blocks - l.scanned
