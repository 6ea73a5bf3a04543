-- The words so far are 0.
use Rattle.std.proofs.Common.{◌≡◌, ◌*◌, ◌<◌, ℕ}
use Rattle.std.specs.Int.{w64}
use Rattle.leak_elf.specs.Fields.{number_at}
use Rattle.leak_sift.proofs.words.count_zeros.Given as goal

abbrev pub invariant-loop-number : goal.invariant-loop-number
invariant-loop-number l = (k : ℕ) → k < l.number → number_at w64 l.bytes (8 * k) ≡ 0
