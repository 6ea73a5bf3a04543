-- The words between the blocks so far were added, in one range at most before each block that begins behind the first address.
use Rattle.std.proofs.Common.{◌≤◌, ◌+◌, max, min, filter, length}
use Rattle.leak_elf.specs.Words.{places}
use Rattle.leak_roots.specs.Counts.{blocks_up_to, spans_up_to}
use Rattle.leak_roots.specs.Roots.{is_free}
use Rattle.leak_roots.proofs.Gaps.{Filled}
use Rattle.leak_roots.proofs.places.push_gaps.Given as goal

abbrev pub invariant-loop-i : goal.invariant-loop-i
invariant-loop-i g l = record {
  filled : Filled (g.T.RangeTest.keeps l.test) l.from l.blocks l.to (filter (is_free l.blocks) (places l.from l.to)) l.initial.kept l.kept l.i l.cursor;
  low : l.from ≤ l.cursor;
  few : length l.kept.memory.items + blocks_up_to l.blocks l.from + spans_up_to l.initial.kept.spans.now l.from
      ≤ length l.initial.kept.memory.items + max (blocks_up_to l.blocks l.from) l.i + spans_up_to l.initial.kept.spans.now (min l.cursor l.to);
}
