-- With the targets that are left, the entries come to the same.
use Rattle.std.proofs.Common.{◌≡◌, ℕ, drop, length}
use Rattle.leak_scan.specs.Dropped.{after_targets}
use Rattle.leak_pool.proofs.listing_heads.drop_targets.Given as goal

abbrev pub invariant-loop-target : goal.invariant-loop-target
invariant-loop-target l = (b : ℕ) → after_targets l.heads l.own (drop l.target-index l.targets) b ≡ after_targets l.initial.heads l.own l.targets b
