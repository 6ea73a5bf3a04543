-- The lowest bit that is left is that of a word, which is 0 or not.
use Rattle.std.proofs.Common.{◌≡◌, ℕ, ◌+◌, ◌<◌, not, ap, arith}
use Rattle.std.specs.Prelude.{◌==◌}
use Rattle.std.specs.Int.{trailing_zeros, w64}
use Rattle.leak_sparse.specs.Pushed.{word_of}
use Rattle.leak_sparse.proofs.PushedLemmas.{nonzero_after, nonzero_all, nonzero_fits, nonzero_none, nonzero_skip, read_word}
use Rattle.leak_sparse.proofs.RestLemmas.{rest_all, rest_lowest, rest_next, rest_none}
use Rattle.leak_sparse.proofs.pushing.nonzero_bits.Goals as goal

pub loop-rest-init : goal.loop-rest-init
loop-rest-init c = record { from = 0; left = rest_all c.args.bits (omega arith); bits = nonzero_none c.args.bits c.args.words.now }

pub overflow_add-nonzero : goal.overflow_add-nonzero
overflow_add-nonzero c =
    let to = c.loop-rest.invariant in
    let bit = trailing_zeros w64 c.loop-rest.rest in
    let some : 0 < c.loop-rest.rest = omega arith in
    let low = rest_lowest c.args.bits c.loop-rest.rest to.from to.left some in
    let word : c.word_of.result ≡ word_of c.args.words.now bit = read_word c.args.words.now bit _ c.word_of.result c.word_of.ensures (omega (arith, c.requires, low.within)) in
    omega (arith, nonzero_fits c.args.bits c.args.words.now c.loop-rest.nonzero to.from bit low to.bits (not (c.word_of.result == 0)) c.from.result (ap (λ (w : ℕ). not (w == 0)) word) c.from.ensures)

pub loop-rest-preserved : goal.loop-rest-preserved
loop-rest-preserved c =
    let to = c.loop-rest.invariant in
    let bit = trailing_zeros w64 c.loop-rest.rest in
    let some : 0 < c.loop-rest.rest = omega arith in
    let low = rest_lowest c.args.bits c.loop-rest.rest to.from to.left some in
    let word : c.word_of.result ≡ word_of c.args.words.now bit = read_word c.args.words.now bit _ c.word_of.result c.word_of.ensures (omega (arith, c.requires, low.within)) in
    record {
      from = bit + 1;
      left = rest_next c.args.bits c.loop-rest.rest to.from to.left some;
      bits = nonzero_after c.args.bits c.args.words.now c.loop-rest.nonzero to.from bit low to.bits (not (c.word_of.result == 0)) c.from.result (ap (λ (w : ℕ). not (w == 0)) word) c.from.ensures;
    }

pub returns : goal.returns
returns c =
    let to = c.loop-rest.invariant in
    let none = rest_none c.args.bits c.loop-rest.rest to.from to.left (omega arith) in
    nonzero_all c.args.bits c.args.words.now c.loop-rest.nonzero 64
    (nonzero_skip c.args.bits c.args.words.now c.loop-rest.nonzero to.from 64 to.bits to.left.within none.each) (omega arith) (omega arith)
