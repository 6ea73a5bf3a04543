-- The lists that rows stand for.
use Rattle.std.specs.Prelude.{ℕ, suc, ◌-◌, ◌/◌, ◌%◌, ◌<◌, List, [], ◌∷◌, map, take, drop, slice_get, slice_index_or}
use Rattle.std.specs.List.{range_with_len}
use Rattle.std.specs.Option.{option_map_or}
use Rattle.leak_marks.specs.Lists.{Has}
use Rattle.leak_pool.specs.Items.{targets_of_block}
use Rattle.leak_pool.specs.declared.rows.Rows.{Rows}

-- what a row lists for the k-th of its blocks
abbrev pub list_in_row : ℕ → Rows → List ℕ
list_in_row k row =
    take (slice_index_or row.starts.items (suc k) 0 - slice_index_or row.starts.items k 0)
    (drop (slice_index_or row.starts.items k 0) row.targets.items)

-- what rows of this many blocks each list for a block
abbrev pub list_in : ℕ → List Rows → ℕ → List ℕ
list_in size rows b = option_map_or (list_in_row (b % size)) (slice_get rows (b / size)) []

-- what they list for so many blocks
abbrev pub lists_in : ℕ → ℕ → List Rows → List (List ℕ)
lists_in blocks size rows = map (list_in size rows) (range_with_len 0 blocks)

-- what is led to first, and what is listed for blocks, are blocks
pub record AreBlocks (blocks : ℕ) (first : List ℕ) (lists : List (List ℕ)) : Type 0 where
  pub of_roots : (b : ℕ) → Has first b → b < blocks
  pub of_blocks : (source b : ℕ) → Has (targets_of_block lists source) b → b < blocks

-- each of some blocks, as what a part of the roots leads to
abbrev pub each_alone : List ℕ → List (List ℕ)
each_alone first = map (λ b. b ∷ []) first
