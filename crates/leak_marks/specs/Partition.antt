-- Lists that share a set of blocks out among them.
use Rattle.std.specs.Prelude.{◌≡◌, ℕ, List}
use Rattle.std.specs.List.{concat}
use Rattle.leak_marks.specs.Lists.{times, Has}

-- Together the lists hold each block of the set once, and no other.
pub record Partitions (lists : List (List ℕ)) (set : ℕ → Type 0) : Type 0 where
  pub once : (block : ℕ) → set block → times block (concat lists) ≡ 1
  pub only : (block : ℕ) → Has (concat lists) block → set block
