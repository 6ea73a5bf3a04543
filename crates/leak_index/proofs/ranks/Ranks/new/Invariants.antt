-- The blocks so far start at multiples of 16, and their rows are made, up to that of the last of them.
use Rattle.std.proofs.Common.{◌≡◌, ℕ, ◌+◌, ◌%◌, ◌≤◌, ◌<◌, length}
use Rattle.leak_index.specs.Ranks.{IsMadeTo, row_of, start_of}
use Rattle.leak_index.proofs.ranks.Ranks.new.Given as goal

abbrev pub invariant-loop-number : goal.invariant-loop-number
invariant-loop-number l = record { aligned : (k : ℕ) → k < l.number → start_of l.blocks k % 16 ≡ 0; made : IsMadeTo l.blocks l.number l.ranks; rest : (k : ℕ) → l.number ≤ k → k < length l.blocks → l.ranks.next ≤ row_of l.blocks k + 1 }
