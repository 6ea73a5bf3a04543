-- From the lemmas of Samples.
use Rattle.std.proofs.Common.{◌≡◌, ◌∙◌, ap, length, arith, ℕ, List}
use Rattle.leak_elf.proofs.Samples.{sample_size}
use Rattle.leak_elf.proofs.sample.core_k.Goals as goal

pub set_words-requires-clause-size : goal.set_words-requires-clause-size
set_words-requires-clause-size c =
    let size : length c.as_mut_slice.result.now ≡ 8192 = ap (λ (xs : List ℕ). length xs) (c.as_mut_slice.ensures.value ∙ c.in_ok-core.ensures) ∙ sample_size in
    omega arith
