-- The pieces so far hold all words up to their end.
use Rattle.std.proofs.Common.{ℕ, ◌≤◌, ◌-◌, ◌^◌, List, ◌++◌}
use Rattle.leak_elf.specs.Words.{word_of}
use Rattle.leak_later.specs.Pieces.{IsCover}
use Rattle.leak_later.proofs.comparing.pieces_of.Given as goal

abbrev pub invariant-loop-addr : goal.invariant-loop-addr
invariant-loop-addr g l = record {
  bound : l.end ≤ 2 ^ 52;
  cover : (rest : List (ℕ × ℕ)) → IsCover (word_of l.core) l.end rest → IsCover (word_of l.core) 0 (l.pieces.items ++ rest);
}

abbrev pub decreases-loop-addr : goal.decreases-loop-addr
decreases-loop-addr g l = 2 ^ 52 - l.end
