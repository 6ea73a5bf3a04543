-- From the lemmas of AloneLemmas.
use Rattle.std.proofs.Common.{ℕ, List, subst, ap, arith, take, length}
use Rattle.leak_roots.specs.Places.{memory_places}
use Rattle.leak_scan.specs.Targets.{targets_of}
use Rattle.leak_marks.specs.Lists.{Has}
use Rattle.leak_pool.specs.Alone.{AreTaken}
use Rattle.leak_pool.specs.Marking.{led_from}
use Rattle.leak_pool.specs.ScopeLaw.{target_below, memory_inside}
use Rattle.leak_pool.proofs.AloneLemmas.{range_at, range_taken, registers_taken, roots_taken}
use Rattle.leak_pool.proofs.alone.take_roots.Goals as goal

pub take_all-requires-clause-inside : goal.take_all-requires-clause-inside
take_all-requires-clause-inside g c b h =
    let t = target_below (g.L.Lookup.index c.args.lookup.now) _ b (subst (λ (l : List ℕ). Has l b) c.of_registers-targets.ensures h) in omega (arith, t, c.requires.blocks)

pub of_memory-requires-clause-range : goal.of_memory-requires-clause-range
of_memory-requires-clause-range g c = range_at c.memory-range-items.result.now c.loop-range.range-index _ (let t = c.loop-range-test.true in omega arith) c.memory-range-items.ensures.ranges

pub take_all-requires-in-loop-range-clause-inside : goal.take_all-requires-in-loop-range-clause-inside
take_all-requires-in-loop-range-clause-inside g c b h =
    let t = memory_inside c.args.roots.now.skips_links (g.W.Words.word_at c.args.words.now) (g.L.Lookup.index c.args.lookup.now) _ b (subst (λ (l : List ℕ). Has l b) c.of_memory.ensures h) in omega (arith, t, c.requires.blocks, c.loop-range.auto.set)

pub loop-range-init : goal.loop-range-init
loop-range-init g c = record {
  marks = c.take_all.ensures.marks;
  taken = registers_taken (g.W.Words.word_at c.args.words.now) (g.L.Lookup.index c.args.lookup.now) c.args.roots.now.skips_links c.args.roots.now.registers c.args.list.now.items c.take_all.new.list.items
      (subst (λ (l : List ℕ). AreTaken (targets_of (g.L.Lookup.index c.args.lookup.now) l) c.args.list.now.items c.take_all.new.list.items) c.registers.ensures
      (subst (λ (l : List ℕ). AreTaken l c.args.list.now.items c.take_all.new.list.items) c.of_registers-targets.ensures c.in_ok-take_all.ensures.done));
}

pub loop-range-preserved : goal.loop-range-preserved
loop-range-preserved g c = record {
  marks = c.take_all-in-loop-range.ensures.marks;
  taken = range_taken (g.W.Words.word_at c.args.words.now) (g.L.Lookup.index c.args.lookup.now) c.args.roots.now.skips_links c.args.roots.now.registers c.memory-range-items.result.now c.loop-range.range-index _ c.args.list.now.items c.loop-range.list.items c.take_all-in-loop-range.new.list.items
      (let t = c.loop-range-test.true in omega arith) c.loop-range.invariant.taken
      (subst (λ (l : List ℕ). AreTaken l c.loop-range.list.items c.take_all-in-loop-range.new.list.items) c.of_memory.ensures c.in_ok-take_all-2.ensures.done);
}

pub returns-clause-done : goal.returns-clause-done
returns-clause-done g c =
    let t = c.loop-range-test.false in
    roots_taken (g.W.Words.word_at c.args.words.now) (g.L.Lookup.index c.args.lookup.now) c.args.roots.now c.loop-range.range-index c.args.list.now.items c.loop-range.list.items (let e = ap (λ (l : List (ℕ × ℕ)). length l) c.memory-range-items.ensures.value in omega arith)
    (subst (λ (l : List (ℕ × ℕ)). AreTaken (led_from c.args.roots.now.skips_links (g.W.Words.word_at c.args.words.now) (g.L.Lookup.index c.args.lookup.now) c.args.roots.now.registers (memory_places (take c.loop-range.range-index l))) c.args.list.now.items c.loop-range.list.items) c.memory-range-items.ensures.value c.loop-range.invariant.taken)
