-- From the lemmas of AloneLemmas and EntryLemmas.
use Rattle.std.proofs.Common.{◌≡◌, ◌<◌, ◌≤◌, ◌∙◌, ℕ, List, get_or, length, ap, subst, arith}
use Rattle.leak_roots.specs.Places.{addresses_in}
use Rattle.leak_scan.specs.Targets.{targets_of}
use Rattle.leak_marks.specs.Lists.{Has}
use Rattle.leak_pool.specs.Alone.{AreTaken}
use Rattle.leak_pool.specs.Marking.{led_in_memory}
use Rattle.leak_pool.specs.ScopeLaw.{target_below, memory_inside}
use Rattle.leak_pool.proofs.AloneLemmas.{range_at, range_taken, registers_taken, roots_taken}
use Rattle.leak_why.specs.declared.reached_block.ReachedBlock.{ReachedBlock}
use Rattle.leak_why.specs.declared.reached_block.Origin.TheVariants.{Registers, Range}
use Rattle.leak_why.specs.declared.reached_block.FirstLead.TheVariants.{Root}
use Rattle.leak_why.specs.ReachedBlocks.{blocks_of}
use Rattle.leak_why.proofs.FoundLemmas.{of_roots_none, of_roots_more, found_taken}
use Rattle.leak_why.proofs.spreading.find_first.Goals as goal

pub find_all-requires-clause-inside : goal.find_all-requires-clause-inside
find_all-requires-clause-inside g c b h =
    let t = target_below (g.L.Lookup.index c.args.lookup.now) _ b (subst (λ (l : List ℕ). Has l b) c.of_registers-targets.ensures h) in omega (arith, t, c.requires.blocks)

pub find_all-requires-in-loop-i-clause-inside : goal.find_all-requires-in-loop-i-clause-inside
find_all-requires-in-loop-i-clause-inside g c b h =
    let t = memory_inside c.args.roots.now.skips_links (g.W.Words.word_at c.args.words.now) (g.L.Lookup.index c.args.lookup.now) _ b (subst (λ (l : List ℕ). Has l b) c.of_memory-targets.ensures h) in omega (arith, t, c.requires.blocks, c.loop-i.auto.seen)

pub of_memory-targets-requires-clause-range : goal.of_memory-targets-requires-clause-range
of_memory-targets-requires-clause-range g c = range_at c.memory-range-items.result.now c.loop-i.i _ (let t = c.loop-i-test.true in omega arith) c.memory-range-items.ensures.ranges

pub loop-i-init : goal.loop-i-init
loop-i-init g c =
    let word_at = g.W.Words.word_at c.args.words.now in
    let index = g.L.Lookup.index c.args.lookup.now in
    let before : List ReachedBlock = c.args.entries.now.items in
    let after : List ReachedBlock = c.find_all.new.entries.items in
    let same : c.of_registers-targets.result ≡ targets_of index c.args.roots.now.registers = c.of_registers-targets.ensures ∙ ap (λ (l : List ℕ). targets_of index l) c.registers.ensures in
    record {
      marks = c.find_all.ensures.marks;
      roots = of_roots_more word_at index c.args.roots.now Registers c.of_registers-targets.result before after tt same c.in_ok-find_all.ensures.done (of_roots_none word_at index c.args.roots.now before c.requires.none);
      taken = registers_taken word_at index c.args.roots.now.skips_links c.args.roots.now.registers (blocks_of before) (blocks_of after)
          (subst (λ (l : List ℕ). AreTaken l (blocks_of before) (blocks_of after)) same (found_taken (Root Registers) c.of_registers-targets.result before after c.in_ok-find_all.ensures.done));
    }

pub loop-i-preserved : goal.loop-i-preserved
loop-i-preserved g c =
    let word_at = g.W.Words.word_at c.args.words.now in
    let index = g.L.Lookup.index c.args.lookup.now in
    let p = c.args.roots.now in
    let i = c.loop-i.i in
    let before : List ReachedBlock = c.loop-i.entries.items in
    let after : List ReachedBlock = c.find_all-in-loop-i.new.entries.items in
    let inside : i < length p.memory = (let e = ap (λ (l : List (ℕ × ℕ)). length l) c.memory-range-items.ensures.value in let t = c.loop-i-test.true in omega arith) in
    let same : c.of_memory-targets.result ≡ led_in_memory p.skips_links word_at index (addresses_in (get_or p.memory i (0, 0))) =
    c.of_memory-targets.ensures ∙ ap (λ (l : List (ℕ × ℕ)). led_in_memory p.skips_links word_at index (addresses_in (get_or l i (0, 0)))) c.memory-range-items.ensures.value in
    record {
      marks = c.find_all-in-loop-i.ensures.marks;
      roots = of_roots_more word_at index p (Range i) c.of_memory-targets.result before after inside same c.in_ok-find_all-2.ensures.done c.loop-i.invariant.roots;
      taken = range_taken word_at index p.skips_links p.registers p.memory i (0, 0) (blocks_of c.args.entries.now.items) (blocks_of before) (blocks_of after) inside c.loop-i.invariant.taken
          (subst (λ (l : List ℕ). AreTaken l (blocks_of before) (blocks_of after)) same (found_taken (Root (Range i)) c.of_memory-targets.result before after c.in_ok-find_all-2.ensures.done));
    }

pub returns-clause-done : goal.returns-clause-done
returns-clause-done g c =
    let word_at = g.W.Words.word_at c.args.words.now in
    let index = g.L.Lookup.index c.args.lookup.now in
    let p = c.args.roots.now in
    let all : length p.memory ≤ c.loop-i.i = (let e = ap (λ (l : List (ℕ × ℕ)). length l) c.memory-range-items.ensures.value in let t = c.loop-i-test.false in omega arith) in
    record {
      roots = c.loop-i.invariant.roots.roots;
      led = c.loop-i.invariant.roots.led;
      covers = (roots_taken word_at index p c.loop-i.i (blocks_of c.args.entries.now.items) (blocks_of c.loop-i.entries.items) all c.loop-i.invariant.taken).covers;
    }
