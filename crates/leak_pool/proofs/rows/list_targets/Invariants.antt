-- What was listed, and the targets that are still to come, are all.
use Rattle.std.proofs.Common.{◌≡◌, ℕ, ◌<◌, ◌≤◌, ◌^◌, ◌++◌, length}
use Rattle.leak_marks.specs.Lists.{Has}
use Rattle.leak_pool.proofs.rows.list_targets.Given as goal

abbrev pub invariant-loop-block : goal.invariant-loop-block
invariant-loop-block g l = record {
  within : length l.targets.items ≤ l.room;
  rest : l.targets.items ++ l.block-iterator ≡ l.initial.targets.items ++ l.initial.block-iterator;
  small : (b : ℕ) → Has l.block-iterator b → b < 2 ^ 32;
}
