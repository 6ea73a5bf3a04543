-- The pages in which blocks start. The page with the number n is the 4096 addresses from 4096 * n on.
use Rattle.std.specs.Prelude.{◌≡◌, ℕ, ◌/◌, ◌<◌, ◌≤◌, List, length, slice_index_or}
use Rattle.std.specs.List.{Contains}
use Rattle.std.specs.List.Sorted.{IsStrictlyIncreasing}
use Rattle.leak_blocks.specs.declared.block.Block.{Block}

-- the page in which the block starts
abbrev pub page_of : Block → ℕ
page_of b = b.start / 4096

-- of the blocks, which ascend, the one with the number is the first that starts in the page
pub record IsFirstIn (blocks : List Block) (page first : ℕ) : Type 0 where
  pub inside : first < length blocks
  pub here : (d : Block) → page_of (slice_index_or blocks first d) ≡ page
  pub earlier : (k : ℕ) (d : Block) → k < first → page_of (slice_index_or blocks k d) < page

-- each page in which a block starts, ascending, and for each the number of the first block that starts there
pub record IsDirectory (blocks : List Block) (pages firsts : List ℕ) : Type 0 where
  pub ascending : IsStrictlyIncreasing pages
  pub paired : length firsts ≡ length pages
  pub first : (e : ℕ) → e < length pages → IsFirstIn blocks (slice_index_or pages e 0) (slice_index_or firsts e 0)
  pub complete : (k : ℕ) (d : Block) → k < length blocks → Contains pages (page_of (slice_index_or blocks k d))

-- this many of the pages are not above the page
pub record AreUpTo (pages : List ℕ) (page count : ℕ) : Type 0 where
  pub bound : count ≤ length pages
  pub within : (k : ℕ) (d : ℕ) → k < count → slice_index_or pages k d ≤ page
  pub beyond : (k : ℕ) (d : ℕ) → count ≤ k → k < length pages → page < slice_index_or pages k d
