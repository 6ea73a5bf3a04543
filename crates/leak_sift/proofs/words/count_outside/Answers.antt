-- A word more is outside.
use Rattle.std.proofs.Common.{rules, ◌≡◌, ◌*◌, ℕ, subst, ◌∙◌, arith}
use Rattle.std.specs.Int.{w64}
use Rattle.leak_elf.specs.Fields.{number_at}
use Rattle.leak_index.proofs.Near.{either}
use Rattle.leak_sift.specs.Passed.{IsOutside}
use Rattle.leak_sift.proofs.WordLemmas.{number_of_chunk}
use Rattle.leak_sift.proofs.words.count_outside.Goals as goal

pub loop-number-preserved : goal.loop-number-preserved
loop-number-preserved c =
    let bytes = c.args.bytes.now in
    let number = c.loop-number.number in
    let outside : IsOutside c.args.low c.args.high c.word_of-word.result = search rules in
    let word = c.word_of-word.ensures ∙ number_of_chunk bytes c.as_chunks.result.0.now number _ c.as_chunks.ensures.front (omega arith) in
    let last = subst (IsOutside c.args.low c.args.high) word outside in
    λ k h. either k number (IsOutside c.args.low c.args.high (number_at w64 bytes (8 * k))) (c.loop-number.invariant k) (λ after.
    let same : number ≡ k = omega arith in
    subst (λ (n : ℕ). IsOutside c.args.low c.args.high (number_at w64 bytes (8 * n))) same last)
