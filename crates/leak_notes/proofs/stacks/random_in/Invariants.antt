-- No pair before this one is AT_RANDOM's.
use Rattle.std.proofs.Common.{◌≡◌, ◌<◌, ℕ, false}
use Rattle.leak_notes.specs.Stacks.{is_random}
use Rattle.leak_notes.proofs.stacks.random_in.Given as goal

abbrev pub invariant-loop-k : goal.invariant-loop-k
invariant-loop-k l = (j : ℕ) → j < l.k → is_random l.vector j ≡ false
