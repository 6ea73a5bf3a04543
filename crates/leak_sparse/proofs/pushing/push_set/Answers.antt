-- The word of the lowest bit that is left is pushed.
use Rattle.std.proofs.Common.{◌≡◌, ◌+◌, ◌<◌, ◌%◌, ◌∙◌, ap, count_ones, arith}
use Rattle.std.specs.Int.{trailing_zeros, w64}
use Rattle.leak_sparse.specs.Pushed.{word_of}
use Rattle.leak_sparse.proofs.BitLemmas.{ones_of_none, ones_step}
use Rattle.leak_sparse.proofs.RetainBitsLemmas.{ones_next}
use Rattle.leak_sparse.proofs.RestLemmas.{rest_all, rest_lowest, rest_next, rest_none}
use Rattle.leak_sparse.proofs.PushedLemmas.{past_pushed, pushed_all, pushed_none, pushed_one, pushed_skip, rank_below, read_word, some_word}
use Rattle.leak_sparse.proofs.pushing.push_set.Goals as goal

pub loop-rest-init : goal.loop-rest-init
loop-rest-init c =
    let none : count_ones (c.args.bits % 1) ≡ 0 = let e : c.args.bits % 1 ≡ 0 = omega arith in ap count_ones e ∙ ones_of_none in
    record {
      from = 0;
      left = rest_all c.args.bits c.requires.nonzero.narrow;
      words = pushed_none c.args.bits c.args.words.now c.args.kept.now.items;
      count = omega (arith, none);
      room = omega arith;
    }

pub push_reserved-requires : goal.push_reserved-requires
push_reserved-requires c =
    let to = c.loop-rest.invariant in
    let some : 0 < c.loop-rest.rest = omega arith in
    let low = rest_lowest c.args.bits c.loop-rest.rest to.from to.left some in
    omega (arith, rank_below c.args.bits to.from (trailing_zeros w64 c.loop-rest.rest) c.requires.nonzero.narrow low, to.count, to.room, c.requires.room)

pub loop-rest-preserved : goal.loop-rest-preserved
loop-rest-preserved c =
    let bits = c.args.bits in
    let words = c.args.words.now in
    let before = c.args.kept.now.items in
    let now = c.loop-rest.kept.items in
    let bit = trailing_zeros w64 c.loop-rest.rest in
    let to = c.loop-rest.invariant in
    let some : 0 < c.loop-rest.rest = omega arith in
    let low = rest_lowest bits c.loop-rest.rest to.from to.left some in
    let same = ones_next bits to.from bit low in
    let word : c.word_of.result ≡ word_of words bit = read_word words bit _ c.word_of.result c.word_of.ensures (omega (arith, c.requires.words, low.within)) in
    let reached = pushed_skip bits words before now to.from bit to.words low.least same in
    record {
      from = bit + 1;
      left = rest_next bits c.loop-rest.rest to.from to.left some;
      words = pushed_one bits words before now c.push_reserved.new.self.items bit c.word_of.result reached low.set word
          (λ none. some_word bits words bit c.requires.nonzero low.within low.set (omega (arith, word, none))) c.push_reserved.ensures.items;
      count = omega (arith, to.count, same, ones_step bits bit, low.set, c.push_reserved.ensures.len);
      room = omega (arith, to.room, c.push_reserved.ensures.capacity);
    }

pub returns : goal.returns
returns c =
    let to = c.loop-rest.invariant in
    let none = rest_none c.args.bits c.loop-rest.rest to.from to.left (omega arith) in
    pushed_all c.args.bits c.args.words.now c.args.kept.now.items c.loop-rest.kept.items 64 c.requires.nonzero.narrow
    (past_pushed c.args.bits c.args.words.now c.args.kept.now.items c.loop-rest.kept.items to.from to.words to.left.within none) (omega arith) (omega arith)
