-- The block that an address asks for (own rule: a block of size 0 has no byte, and is asked for by its start).
use Rattle.std.specs.Prelude.{◌≡◌, ◌⊎◌, ℕ, ◌+◌, ◌<◌, ◌≤◌, List, length, slice_index_or}
use Rattle.leak_blocks.specs.declared.block.Block.{Block}

-- the address is that of a byte of the block, or of its start
abbrev pub IsOf : Block → ℕ → Type 0
IsOf b address = ((b.start ≤ address) × (address < b.start + b.size)) ⊎ (b.start ≡ address)

-- the block with the number is asked for
pub record IsAsked (blocks : List Block) (address i : ℕ) : Type 0 where
  pub inside : i < length blocks
  pub is : (d : Block) → IsOf (slice_index_or blocks i d) address

-- none of the first n blocks is
abbrev pub AreNotAsked : List Block → ℕ → ℕ → Type 0
AreNotAsked blocks address n = (k : ℕ) (d : Block) → k < n → k < length blocks → ¬ IsOf (slice_index_or blocks k d) address
