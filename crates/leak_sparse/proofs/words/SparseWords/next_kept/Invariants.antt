-- No word is kept from `from` on, up to the place that is reached.
use Rattle.std.proofs.Common.{◌≡◌, ℕ, ◌+◌, ◌*◌, ◌/◌, ◌%◌, ◌<◌, ◌≤◌}
use Rattle.std.specs.Int.{bit_at}
use Rattle.leak_sparse.proofs.RankLemmas.{bits_of}
use Rattle.leak_sparse.proofs.words.SparseWords.next_kept.Given as goal

abbrev pub invariant-loop-number : goal.invariant-loop-number
invariant-loop-number l = record {
  bit : l.bit < 64;
  reached : l.fn.from ≤ 64 * l.number + l.bit;
  none : (k : ℕ) → l.fn.from ≤ k → k < 64 * l.number + l.bit → bit_at (bits_of l.self-inside.groups.items (k / 64)) (k % 64) ≡ 0;
}
