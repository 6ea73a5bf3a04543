-- The numbers of a plan.
use Rattle.std.specs.Prelude.{ℕ, ◌≤◌}

-- how many workers, words in a piece of the roots, and entries in a stack
pub record Numbers : Type 0 where
  pub workers : ℕ
  pub piece : ℕ
  pub stack : ℕ

-- the number is within the bounds, which are included
pub record IsBetween (low high n : ℕ) : Type 0 where
  pub from : low ≤ n
  pub to : n ≤ high
