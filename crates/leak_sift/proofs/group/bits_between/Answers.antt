-- The bits of both halves.
use Rattle.std.proofs.Common.{◌≡◌, ◌∙◌, ◌+◌, ◌*◌, ◌%◌, ◌^◌, ℕ, List, [], get_or, ap, subst, arith}
use Rattle.std.specs.Int.{w64, from_le_bytes}
use Rattle.std.proofs.lemmas.List.{get_or-drop, get_or-take}
use Rattle.leak_sift.specs.Grouped.{AreBits}
use Rattle.leak_sparse.specs.Pushed.{word_of}
use Rattle.leak_sparse.specs.Words.{is_between}
use Rattle.leak_sift.proofs.BitsLemmas.{bits_behind, same_bits}
use Rattle.leak_sift.proofs.group.bits_between.Goals as goal

pub returns : goal.returns
returns c =
    let low = c.args.low in
    let high = c.args.high in
    let words = c.args.words.now in
    let first = c.split_at.result.0.now in
    let last = c.split_at.result.1.now in
    let front : AreBits (λ k. is_between low high (word_of words k)) 32 c.half_between-2.result =
    same_bits (λ k. is_between low high (word_of first k)) (λ k. is_between low high (word_of words k)) 32 c.half_between-2.result
    (λ k h. ap (λ (b : List ℕ). is_between low high (from_le_bytes w64 b)) (ap (λ (l : List (List ℕ)). get_or l k []) c.split_at.ensures.front ∙ get_or-take 32 words k [] h)) c.half_between-2.ensures in
    let back : AreBits (λ k. is_between low high (word_of words (32 + k))) 32 c.half_between.result =
    same_bits (λ k. is_between low high (word_of last k)) (λ k. is_between low high (word_of words (32 + k))) 32 c.half_between.result
    (λ k h. ap (λ (b : List ℕ). is_between low high (from_le_bytes w64 b)) (ap (λ (l : List (List ℕ)). get_or l k []) c.split_at.ensures.back ∙ get_or-drop 32 words k [])) c.half_between.ensures in
    let whole : c.half_between.result * 2 ^ 32 + c.half_between-2.result ≡ c.half_between.result * 2 ^ 32 % 2 ^ 64 + c.half_between-2.result = omega (arith, back.narrow) in
    subst (AreBits (λ k. is_between low high (word_of words k)) 64) whole
    (bits_behind (λ k. is_between low high (word_of words k)) c.half_between-2.result c.half_between.result front back)
