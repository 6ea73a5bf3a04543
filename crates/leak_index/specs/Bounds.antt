-- Blocks that are apart, with bounds of the words that can lead to one.
use Rattle.std.specs.Prelude.{ℕ, ◌+◌, ◌<◌, ◌≤◌, List, length, slice_index_or}
use Rattle.std.specs.List.{AllByRecursion}
use Rattle.leak_blocks.specs.declared.block.Block.{Block}
use Rattle.leak_blocks.specs.Span.{AreDisjoint}

pub record AreWithin (blocks : List Block) (low high : ℕ) : Type 0 where
  pub disjoint : AreDisjoint blocks
  pub above : AllByRecursion (λ b. low ≤ b.start) blocks
  pub below : AllByRecursion (λ b. b.start + b.size ≤ high) blocks

-- this many blocks begin at the address or before it, and the others after it
pub record IsCountUpTo (blocks : List Block) (address count : ℕ) : Type 0 where
  pub bound : count ≤ length blocks
  pub within : (k : ℕ) (d : Block) → k < count → (slice_index_or blocks k d).start ≤ address
  pub beyond : (k : ℕ) (d : Block) → count ≤ k → k < length blocks → address < (slice_index_or blocks k d).start

-- the blocks numbered below `low` begin at the address or before it, and those from `high` on after it
pub record IsNarrowedTo (blocks : List Block) (address low high : ℕ) : Type 0 where
  pub order : low ≤ high
  pub bound : high ≤ length blocks
  pub before : (k : ℕ) (d : Block) → k < low → (slice_index_or blocks k d).start ≤ address
  pub behind : (k : ℕ) (d : Block) → high ≤ k → k < length blocks → address < (slice_index_or blocks k d).start
