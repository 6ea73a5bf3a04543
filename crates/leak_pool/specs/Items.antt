-- Items and their targets.
use Rattle.std.specs.Prelude.{◌≡◌, ◌⊎◌, ℕ, ◌<◌, ◌≤◌, ◌*◌, ◌/◌, Bool, true, false, List, [], ◌∷◌, length, map, Option, Some, None, slice_index_or}
use Rattle.std.specs.List.{list_any, range_with_len}
use Rattle.leak_marks.specs.Lists.{Has}
use Rattle.leak_pool.specs.declared.target_source.Item.{Item}
use Rattle.leak_pool.specs.declared.target_source.Item.TheVariants.{Root, Block}
use Rattle.leak_pool.specs.declared.items.Items.{Items}
use Rattle.leak_pool.specs.declared.items.Items.TheVariants.{Roots, Blocks}

-- what a block leads to, of all blocks
abbrev pub targets_of_block : List (List ℕ) → ℕ → List ℕ
targets_of_block targets b = slice_index_or targets b []

-- what an item leads to
abbrev pub targets_of_item : List (List ℕ) → List (List ℕ) → Item → List ℕ
targets_of_item roots targets (Root k) = slice_index_or roots k []
targets_of_item roots targets (Block b) = slice_index_or targets b []

-- there is such an item
abbrev pub IsItem : List (List ℕ) → List (List ℕ) → Item → Type 0
IsItem roots targets (Root k) = k < length roots
IsItem roots targets (Block b) = b < length targets

-- the items of a round: this many first parts of the roots, or blocks
abbrev pub items_in : Items → List Item
items_in (Roots parts) = map Root (range_with_len 0 parts)
items_in (Blocks blocks) = map Block blocks.now

-- the item is a part of the roots
abbrev pub is_root : Item → Bool
is_root (Root k) = true
is_root (Block b) = false

-- an item is a part of the roots, or there are at least 1,000 items: then threads are worth their start
abbrev pub AreMany : List Item → Type 0
AreMany items = (list_any is_root items ≡ true) ⊎ (1000 ≤ length items)

-- the first of the list, and what is left
abbrev pub IsNextOf : List ℕ → Option ℕ → List ℕ → Type 0
IsNextOf rest None later = rest ≡ []
IsNextOf rest (Some t) later = rest ≡ t ∷ later

-- what the k-th item of the list leads to
abbrev pub targets_at : List (List ℕ) → List (List ℕ) → List Item → ℕ → List ℕ
targets_at roots targets items k = targets_of_item roots targets (slice_index_or items k (Root 0))

-- an item from low up to high leads to the block
abbrev pub InRange : (ℕ → List ℕ) → ℕ → ℕ → ℕ → Type 0
InRange targets low high b = (k : ℕ) × (low ≤ k) × (k < high) × Has (targets k) b

-- where the share of the worker k of m begins, of n items
unfoldable pub share : ℕ → ℕ → ℕ → ℕ
share k n m = k * n / m
