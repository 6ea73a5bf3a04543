-- The claims of several workers, and one attempt at a claim (own rule: one owner for each marked block).
use Rattle.std.specs.Prelude.{ℕ, ◌++◌, List, [], ◌∷◌, if◌then◌else◌, slice_index_or, slice_set}
use Rattle.std.specs.List.{concat}
use Rattle.leak_marks.specs.Lists.{Has, has}

-- the number of blocks, and one list of blocks for each worker
pub record ClaimState : Type 0 where
  pub blocks : ℕ
  pub lists : List (List ℕ)

-- the block is on some worker's list
abbrev pub IsClaimed : List (List ℕ) → ℕ → Type 0
IsClaimed lists block = Has (concat lists) block

-- the lists after an attempt: if the block was on none, it is at the end of the worker's
abbrev pub attempted : List (List ℕ) → ℕ → ℕ → List (List ℕ)
attempted lists worker block =
    if has (concat lists) block then lists
    else slice_set lists worker (slice_index_or lists worker [] ++ block ∷ [])
