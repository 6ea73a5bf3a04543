-- What blocks lead to, listed once: the targets of one block after those of another.
use Rattle.std.specs.Prelude.{◌≡◌, ℕ, suc, ◌-◌, ◌*◌, ◌/◌, ◌%◌, ◌<◌, ◌≤◌, ◌^◌, min, max, List, length, take, drop, slice_index_or, Option, Some, None, Vec}
use Rattle.std.specs.declared.alloc.Global.{Global}
use Rattle.std.specs.Fork.{slice_chunk}
use Rattle.std.specs.Int.{div_ceil}
use Rattle.std.specs.List.{sum_by}
use Rattle.leak_blocks.specs.declared.block.Block.{Block}
use Rattle.leak_index.specs.Hits.{Index}
use Rattle.leak_pool.specs.Items.{targets_of_block}
use Rattle.leak_pool.specs.declared.rows.Rows.{Rows}

-- the k-th list is among all targets, from where it starts up to where the next one does
pub record IsListAt (starts targets : List ℕ) (k : ℕ) (list : List ℕ) : Type 0 where
  pub more : suc k < length starts
  pub ascending : slice_index_or starts k 0 ≤ slice_index_or starts (suc k) 0
  pub inside : slice_index_or starts (suc k) 0 ≤ length targets
  pub same : take (slice_index_or starts (suc k) 0 - slice_index_or starts k 0) (drop (slice_index_or starts k 0) targets) ≡ list

-- n lists are there, and nothing after them
pub record AreListed (lists : ℕ → List ℕ) (n : ℕ) (starts targets : List ℕ) : Type 0 where
  pub len : length starts ≡ suc n
  pub last : slice_index_or starts n 0 ≡ length targets
  pub each : (k : ℕ) → k < n → IsListAt starts targets k (lists k)

-- the lists of all blocks are in rows of this many blocks each
pub record AreEdges (targets : List (List ℕ)) (size : ℕ) (rows : List Rows) : Type 0 where
  pub some : 0 < size
  pub enough : (k : ℕ) → k < length targets → k / size < length rows
  pub each : (k : ℕ) (d : Rows) → k < length targets
      → IsListAt (slice_index_or rows (k / size) d).starts.items (slice_index_or rows (k / size) d).targets.items (k % size) (targets_of_block targets k)

-- how many targets the lists have in all
abbrev pub target_count : List (List ℕ) → ℕ
target_count targets = sum_by (λ list. length list) targets

-- how many targets the rows keep in all
abbrev pub kept_count : List Rows → ℕ
kept_count rows = sum_by (λ row. length row.targets.items) rows

-- one row has these lists and nothing else, and no more targets than there is room for; none is made where they have more
pub record IsRow (targets : List (List ℕ)) (room : ℕ) (row : Rows) : Type 0 where
  pub listed : AreListed (targets_of_block targets) (length targets) row.starts.items row.targets.items
  pub exact : length row.targets.items ≡ target_count targets
  pub within : length row.targets.items ≤ room

abbrev pub IsRowOrOver : List (List ℕ) → ℕ → Option Rows → Type 0
IsRowOrOver targets room (Some row) = IsRow targets room row
IsRowOrOver targets room None = room < target_count targets

-- there are so many rows of this many blocks each, of the blocks of the index, which numbers of 32 bits name
pub record CanList (index : Index) (blocks : List Block) (size count : ℕ) : Type 0 where
  pub some : 0 < size
  pub same : index.blocks ≡ blocks
  pub few : length blocks < 2 ^ 32
  pub many : count ≤ div_ceil (length blocks) size

-- the first rows, each of this many blocks
pub record AreRows (targets : List (List ℕ)) (size room count : ℕ) (rows : List Rows) : Type 0 where
  pub many : length rows ≡ count
  pub each : (n : ℕ) (d : Rows) → n < count → IsRow (slice_chunk targets size n) room (slice_index_or rows n d)

-- the lists of the blocks of some row have more targets than there is room for
abbrev pub IsOver : List (List ℕ) → ℕ → ℕ → Type 0
IsOver targets size room =
    (n : ℕ) × (n * size < length targets) × (room < target_count (slice_chunk targets size n))

abbrev pub AreRowsOrOver : List (List ℕ) → ℕ → ℕ → ℕ → Option (Vec Rows Global) → Type 0
AreRowsOrOver targets size room count (Some rows) = AreRows targets size room count rows.items
AreRowsOrOver targets size room count None = IsOver targets size room

-- how many blocks each row has, but for the last, where so many workers list so many blocks
abbrev pub row_size : ℕ → ℕ → ℕ
row_size blocks workers = max (div_ceil blocks workers) 1

-- how many targets each worker has room for; their numbers have 32 bits
abbrev pub share_of : ℕ → ℕ → ℕ
share_of room workers = min (room / workers) (2 ^ 32 - 1)
