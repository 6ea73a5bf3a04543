-- The door was passed for the items so far.
use Rattle.std.proofs.Common.{◌+◌, ◌%◌, ◌^◌, ◌<◌, ℕ}
use Rattle.leak_pool.proofs.door.Door.pass_items.Given as goal

abbrev pub invariant-loop-item : goal.invariant-loop-item
invariant-loop-item g l = (j : ℕ) → j < l.item → g.G.Gate.passed l.self.gate.now l.self.worker ((l.self.step + j) % 2 ^ 64)
