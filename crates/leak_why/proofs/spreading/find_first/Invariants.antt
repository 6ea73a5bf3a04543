-- What the registers and the ranges so far lead to was found.
use Rattle.std.proofs.Common.{take}
use Rattle.leak_roots.specs.Places.{memory_places}
use Rattle.leak_pool.specs.Alone.{AreMarks, AreTaken}
use Rattle.leak_pool.specs.Marking.{led_from}
use Rattle.leak_why.specs.ReachedBlocks.{blocks_of}
use Rattle.leak_why.proofs.FoundLemmas.{AreOfRoots}
use Rattle.leak_why.proofs.spreading.find_first.Given as goal

abbrev pub invariant-loop-i : goal.invariant-loop-i
invariant-loop-i g l = record {
  marks : AreMarks l.seen (blocks_of l.entries.items);
  roots : AreOfRoots (g.W.Words.word_at l.words) (g.L.Lookup.index l.lookup) l.roots l.entries.items;
  taken : AreTaken (led_from l.roots.skips_links (g.W.Words.word_at l.words) (g.L.Lookup.index l.lookup) l.roots.registers (memory_places (take l.i l.roots.memory))) (blocks_of l.fn.entries.items) (blocks_of l.entries.items);
}
