-- One word more, before the others.
use Rattle.std.proofs.Common.{◌≡◌, ◌∙◌, ◌+◌, ◌-◌, ◌*◌, ℕ, not, ap, subst, arith}
use mir.Val.{bool_byte}
use Rattle.leak_sift.specs.Grouped.{AreBits}
use Rattle.leak_sparse.specs.Pushed.{word_of}
use Rattle.leak_sparse.specs.Words.{is_between}
use Rattle.leak_sparse.proofs.PushedLemmas.{read_word}
use Rattle.leak_sift.proofs.BitsLemmas.{bits_before, counted_bit, same_bits}
use Rattle.leak_sift.proofs.group.half_between.Goals as goal

pub loop-left-preserved : goal.loop-left-preserved
loop-left-preserved c =
    let low = c.args.low in
    let high = c.args.high in
    let words = c.args.words.now in
    let left = c.loop-left.left in
    let bits = c.loop-left.bits in
    let word : c.word_of.result ≡ word_of words (left - 1) = read_word words (left - 1) _ c.word_of.result c.word_of.ensures (omega (arith, c.requires.words, c.loop-left.invariant.within)) in
    let first : left - 1 ≡ left - 1 + 0 = omega arith in
    let told : c.from.result ≡ bool_byte (not (is_between low high (word_of words (left - 1 + 0)))) =
    c.from.ensures ∙ ap bool_byte (c.is_outside.ensures ∙ ap (λ (w : ℕ). not (is_between low high w)) (word ∙ ap (word_of words) first)) in
    let behind : AreBits (λ k. is_between low high (word_of words (left - 1 + (k + 1)))) (32 - left) bits =
    same_bits (λ k. is_between low high (word_of words (left + k))) (λ k. is_between low high (word_of words (left - 1 + (k + 1)))) (32 - left) bits
    (λ k h. let at : left + k ≡ left - 1 + (k + 1) = omega (arith, c.loop-left-test.true) in ap (λ (n : ℕ). is_between low high (word_of words n)) at) c.loop-left.invariant.bits in
    let count : 32 - left + 1 ≡ 32 - (left - 1) = omega (arith, c.loop-left-test.true, c.loop-left.invariant.within) in
    record {
      within = omega (arith, c.loop-left.invariant.within);
      bits = subst (λ (n : ℕ). AreBits (λ k. is_between low high (word_of words (left - 1 + k))) n (2 * bits + 1 - c.from.result)) count
          (bits_before (λ k. is_between low high (word_of words (left - 1 + k))) (32 - left) bits (2 * bits + 1 - c.from.result) behind
          (counted_bit (is_between low high (word_of words (left - 1 + 0))) c.from.result bits told));
    }
