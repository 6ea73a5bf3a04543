-- The targets so far are blocks.
use Rattle.std.proofs.Common.{ℕ, ◌<◌, take}
use Rattle.leak_marks.specs.Lists.{Has}
use Rattle.leak_tests_marking.proofs.lists.are_blocks.Given as goal

abbrev pub invariant-loop-target : goal.invariant-loop-target
invariant-loop-target l = (b : ℕ) → Has (take l.target-index l.targets) b → b < l.blocks
