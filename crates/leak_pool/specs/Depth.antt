-- How many rounds there are if no worker scans what it claims in the same round.
use Rattle.std.specs.Prelude.{◌≡◌, ◌⊎◌, ℕ, ◌+◌, ◌≤◌, List, ◌∷◌, length}
use Rattle.leak_marks.specs.Reach.{Graph, Reach, IsChain}

-- The greatest length of a shortest chain: each block that is reached ends a chain of so many blocks or fewer, and one of
-- them ends none of fewer. It is 0 if no block is reached.
pub record IsDepth (graph : Graph) (depth : ℕ) : Type 0 where
  pub at_most : (b : ℕ) → Reach graph b
      → (before : List ℕ) × IsChain graph (b ∷ before) × (length (b ∷ before) ≤ depth)
  pub least : (depth ≡ 0) ⊎ ((b : ℕ) × Reach graph b
      × ((before : List ℕ) → IsChain graph (b ∷ before) → depth ≤ length (b ∷ before)))

-- one round for the roots, and one for the blocks at the end of each length of a shortest chain
abbrev pub AreByDepth : Graph → ℕ → Type 0
AreByDepth graph rounds = (depth : ℕ) × (rounds ≡ depth + 1) × IsDepth graph depth
