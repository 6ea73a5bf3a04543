-- A word more is 0.
use Rattle.std.proofs.Common.{rules, ◌≡◌, ◌*◌, ℕ, sym, subst, ◌∙◌, arith}
use Rattle.std.specs.Int.{w64}
use Rattle.leak_elf.specs.Fields.{number_at}
use Rattle.leak_index.proofs.Near.{either}
use Rattle.leak_sift.proofs.WordLemmas.{number_of_chunk}
use Rattle.leak_sift.proofs.words.count_zeros.Goals as goal

pub loop-number-preserved : goal.loop-number-preserved
loop-number-preserved c =
    let bytes = c.args.bytes.now in
    let number = c.loop-number.number in
    let zero : c.word_of.result ≡ 0 = search rules in
    let last : number_at w64 bytes (8 * number) ≡ 0 =
    sym (c.word_of.ensures ∙ number_of_chunk bytes c.as_chunks.result.0.now number _ c.as_chunks.ensures.front (omega arith)) ∙ zero in
    λ k h. either k number (number_at w64 bytes (8 * k) ≡ 0) (c.loop-number.invariant k) (λ after.
    let same : number ≡ k = omega arith in
    subst (λ (n : ℕ). number_at w64 bytes (8 * n) ≡ 0) same last)
