-- What the registers and the ranges so far lead to was taken.
use Rattle.std.proofs.Common.{take}
use Rattle.leak_roots.specs.Places.{memory_places}
use Rattle.leak_pool.specs.Alone.{AreMarks, AreTaken}
use Rattle.leak_pool.specs.Marking.{led_from}
use Rattle.leak_pool.proofs.alone.take_roots.Given as goal

abbrev pub invariant-loop-range : goal.invariant-loop-range
invariant-loop-range g l = record {
  marks : AreMarks l.set l.list.items;
  taken : AreTaken (led_from l.roots.skips_links (g.W.Words.word_at l.words) (g.L.Lookup.index l.lookup) l.roots.registers (memory_places (take l.range-index l.range-items))) l.fn.list.items l.list.items;
}
