-- A listing of memory under a log: what each live block leads to, and the blocks that root words lead to.
use Rattle.std.specs.Prelude.{◌≡◌, ◌↔◌, ℕ, ◌<◌, ◌≤◌, ◌^◌, List, length, Option}
use Rattle.std.specs.Int.{div_ceil}
use Rattle.std.specs.List.{All}
use Rattle.leak_index.specs.Hits.{Index}
use Rattle.leak_roots.specs.Places.{Places}
use Rattle.leak_marks.specs.Lists.{Has, IsDistinct}
use Rattle.leak_pool.specs.Edges.{row_size}
use Rattle.leak_pool.specs.Lists.{lists_in}
use Rattle.leak_pool.specs.Marking.{led_by_roots}
use Rattle.leak_pool.specs.Scopes.{all_targets}
use Rattle.leak_pool.specs.declared.block_lists.BlockLists.{BlockLists}
use Rattle.leak_pool.specs.declared.listing.Listing.{Listing}
use Rattle.leak_pool.specs.declared.rows.Rows.{Rows}

-- what each block leads to
abbrev pub targets_in : Listing → List (List ℕ)
targets_in l = lists_in l.blocks l.size l.rows.items

-- These are the lists of the index's blocks in this memory, in the order of their words. The blocks are few enough to be numbered.
pub record AreListsOf (word_at : ℕ → Option ℕ) (index : Index) (l : BlockLists) : Type 0 where
  pub few : length index.blocks < 2 ^ 32
  pub blocks : l.blocks ≡ length index.blocks
  pub targets : lists_in l.blocks l.size l.rows.items ≡ all_targets word_at index

-- so many workers listed what so many blocks lead to: a row each, with no more targets than its share
pub record AreWithin (blocks workers share : ℕ) (rows : List Rows) : Type 0 where
  pub each : All (λ row. length row.targets.items ≤ share) rows
  pub count : length rows ≡ div_ceil blocks (row_size blocks workers)

-- these are the blocks that the root words at these places lead to, each once
pub record AreFirstOf (word_at : ℕ → Option ℕ) (index : Index) (places : Places) (first : List ℕ) : Type 0 where
  pub once : IsDistinct first
  pub led : (b : ℕ) → Has first b ↔ Has (led_by_roots word_at index places) b

-- These are the lists of the index's blocks in this memory, in the order of their words, and of the root words at these places: each
-- block that they lead to is there once. The blocks are few enough to be numbered.
pub record IsListingOf (word_at : ℕ → Option ℕ) (index : Index) (places : Places) (l : Listing) : Type 0 where
  pub few : length index.blocks < 2 ^ 32
  pub blocks : l.blocks ≡ length index.blocks
  pub once : IsDistinct l.first.items
  pub first : (b : ℕ) → Has l.first.items b ↔ Has (led_by_roots word_at index places) b
  pub targets : targets_in l ≡ all_targets word_at index
