-- With the targets that are still to come, the entries come to the same.
use Rattle.std.proofs.Common.{◌≡◌, ℕ, ◌<◌, length}
use Rattle.std.specs.List.{AllByRecursion}
use Rattle.leak_scan.specs.Dropped.{after_targets}
use Rattle.leak_scan.proofs.head_blocks.drop_targets.Given as goal

abbrev pub invariant-loop-target : goal.invariant-loop-target
invariant-loop-target g l = record {
  inside : AllByRecursion (λ b. b < length l.heads) l.target-iterator;
  same : (b : ℕ) → after_targets l.heads l.own l.target-iterator b ≡ after_targets l.initial.heads l.own l.initial.target-iterator b;
}
