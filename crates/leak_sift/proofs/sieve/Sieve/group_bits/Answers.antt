-- The bits of near places, and of words in range.
use Rattle.std.proofs.Common.{◌+◌, ◌*◌, not, bit_or, subst}
use Rattle.leak_sparse.specs.Pushed.{word_of}
use Rattle.leak_sparse.specs.Words.{is_between}
use Rattle.leak_sift.specs.Grouped.{AreBits, is_kept}
use Rattle.leak_sift.specs.Kept.{Rule, is_near, is_outside}
use Rattle.leak_sift.proofs.BitsLemmas.{either_bits, same_bits}
use Rattle.leak_sift.proofs.GroupLemmas.{in_range}
use Rattle.leak_sift.proofs.sieve.Sieve.group_bits.Goals as goal

pub returns-clause-bits : goal.returns-clause-bits
returns-clause-bits c =
    let blocks = c.self.inside.blocks.now in
    let low = c.self.inside.low in
    let high = c.self.inside.high in
    let words = c.args.words.now in
    let near = c.near_bits-near.result.0 in
    let between = c.bits_between-between.result in
    subst (λ (rule : Rule). AreBits (λ k. is_kept rule.blocks rule.links (c.args.place + 8 * k) (word_of words k)) 64 (bit_or near between)) c.self.view_is
    (either_bits (λ k. is_near blocks c.self.inside.links (c.args.place + 8 * k)) (λ k. not (is_outside blocks (word_of words k))) 64 near between c.near_bits-near.ensures.bits
    (same_bits (λ k. is_between low high (word_of words k)) (λ k. not (is_outside blocks (word_of words k))) 64 between (λ k h. in_range blocks low high (word_of words k) c.self.invariant.0.range) c.bits_between-between.ensures))
