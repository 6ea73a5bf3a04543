-- From the lemmas of SumLemmas, ElementLemmas and SizeLemmas.
use Rattle.std.proofs.Common.{◌≡◌, ◌+◌, take, get_or, arith}
use Rattle.leak_blocks.specs.declared.block.Block.{Block}
use Rattle.leak_blocks.proofs.SumLemmas.{sum_fits}
use Rattle.leak_marks.proofs.ElementLemmas.{has_at}
use Rattle.leak_search.specs.SearchTwo.{size_of}
use Rattle.leak_search.proofs.SizeLemmas.{size_none, size_more, size_front, size_few}
use Rattle.leak_search.proofs.two_cores.sum_sizes.Goals as goal

abbrev none : Block
none = record { start = 0; size = 0; line = 0; caller = (0, 0) }

pub loop-number-init : goal.loop-number-init
loop-number-init c = size_none c.args.blocks.now

pub bounds-blocks-number : goal.bounds-blocks-number
bounds-blocks-number c = c.requires.inside (get_or c.args.numbers.now c.loop-number.number-index 0) (has_at c.args.numbers.now c.loop-number.number-index 0 c.loop-number-test.true)

pub loop-number-preserved : goal.loop-number-preserved
loop-number-preserved c =
    let inside = c.requires.inside (get_or c.args.numbers.now c.loop-number.number-index 0) (has_at c.args.numbers.now c.loop-number.number-index 0 c.loop-number-test.true) in
    let more = size_more c.args.blocks.now c.args.numbers.now c.loop-number.number-index 0 none c.loop-number-test.true inside in
    let so_far : c.loop-number.bytes ≡ size_of c.args.blocks.now (take c.loop-number.number-index c.args.numbers.now) = c.loop-number.invariant in
    omega arith

pub overflow_add-bytes : goal.overflow_add-bytes
overflow_add-bytes c =
    let inside = c.requires.inside (get_or c.args.numbers.now c.loop-number.number-index 0) (has_at c.args.numbers.now c.loop-number.number-index 0 c.loop-number-test.true) in
    let more = size_more c.args.blocks.now c.args.numbers.now c.loop-number.number-index 0 none c.loop-number-test.true inside in
    let front = size_front c.args.blocks.now c.args.numbers.now (c.loop-number.number-index + 1) in
    let few = size_few c.args.blocks.now c.args.numbers.now c.requires.ascending c.requires.inside in
    let fits = sum_fits c.args.blocks.now c.requires.addressed c.requires.disjoint in
    let so_far : c.loop-number.bytes ≡ size_of c.args.blocks.now (take c.loop-number.number-index c.args.numbers.now) = c.loop-number.invariant in
    omega arith
