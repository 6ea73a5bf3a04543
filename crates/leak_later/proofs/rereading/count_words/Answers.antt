-- From the lemmas of SumLemmas, ElementLemmas and SizeLemmas.
use Rattle.std.proofs.Common.{◌≡◌, ◌+◌, take, get_or, arith}
use Rattle.leak_blocks.specs.declared.block.Block.{Block}
use Rattle.leak_blocks.proofs.SumLemmas.{sum_fits}
use Rattle.leak_marks.proofs.ElementLemmas.{has_at}
use Rattle.leak_later.specs.Differing.{reread_of}
use Rattle.leak_later.proofs.SizeLemmas.{reread_none, reread_more, reread_front, reread_few}
use Rattle.leak_later.proofs.rereading.count_words.Goals as goal

abbrev none : Block
none = record { start = 0; size = 0; line = 0; caller = (0, 0) }

pub loop-number-init : goal.loop-number-init
loop-number-init g c = reread_none (g.W.Words.word_at c.args.words.now) c.args.pages.now c.args.blocks.now

pub bounds-blocks-number : goal.bounds-blocks-number
bounds-blocks-number g c = c.requires.inside (get_or c.args.numbers.now c.loop-number.number-index 0) (has_at c.args.numbers.now c.loop-number.number-index 0 c.loop-number-test.true)

pub loop-number-preserved : goal.loop-number-preserved
loop-number-preserved g c =
    let more = reread_more (g.W.Words.word_at c.args.words.now) c.args.pages.now c.args.blocks.now c.args.numbers.now c.loop-number.number-index 0 none c.loop-number-test.true
    (c.requires.inside (get_or c.args.numbers.now c.loop-number.number-index 0) (has_at c.args.numbers.now c.loop-number.number-index 0 c.loop-number-test.true)) in
    let so_far : c.loop-number.count ≡ reread_of (g.W.Words.word_at c.args.words.now) c.args.pages.now c.args.blocks.now (take c.loop-number.number-index c.args.numbers.now) = c.loop-number.invariant in
    let here = c.count_on-count.ensures in
    omega arith

pub overflow_add-count : goal.overflow_add-count
overflow_add-count g c =
    let f = g.W.Words.word_at c.args.words.now in
    let all : c.loop-number.count + c.count_on-count.result ≡ reread_of f c.args.pages.now c.args.blocks.now (take (c.loop-number.number-index + 1) c.args.numbers.now) = loop-number-preserved g c in
    let front = reread_front f c.args.pages.now c.args.blocks.now c.args.numbers.now (c.loop-number.number-index + 1) in
    let few = reread_few f c.args.pages.now c.args.blocks.now c.args.numbers.now c.requires.ascending c.requires.inside in
    let fits = sum_fits c.args.blocks.now c.requires.addressed c.requires.disjoint in
    omega arith
