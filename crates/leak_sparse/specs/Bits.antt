-- The bits of a group that are set.
use Rattle.std.specs.Prelude.{◌≡◌, ℕ, ◌<◌, ◌≤◌}
use Rattle.std.specs.Int.{bit_at}

-- no bit is set from this one on, of 64
pub record NoneFrom (bits from : ℕ) : Type 0 where
  pub each : (k : ℕ) → from ≤ k → k < 64 → bit_at bits k ≡ 0

-- the bit is set, and none between
pub record IsLowestFrom (bits from bit : ℕ) : Type 0 where
  pub at_or_after : from ≤ bit
  pub within : bit < 64
  pub set : bit_at bits bit ≡ 1
  pub least : (k : ℕ) → from ≤ k → k < bit → bit_at bits k ≡ 0
