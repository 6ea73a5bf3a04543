-- Where a place is among blocks.
use Rattle.std.specs.Prelude.{◌≡◌, ℕ, ◌-◌, ◌<◌, ◌≤◌, ◌⊎◌, ◌||◌, nat_lt, Bool, true, false, List, length, slice_index_or}
use Rattle.leak_blocks.specs.declared.block.Block.{Block}
use Rattle.leak_blocks.specs.Span.{AreDisjoint}
use Rattle.leak_sift.specs.Kept.{is_near, is_outside}

-- this many blocks have their size word at the place or before it, and the others after it
pub record IsPassed (blocks : List Block) (place count : ℕ) : Type 0 where
  pub bound : count ≤ length blocks
  pub before : (k : ℕ) (d : Block) → k < count → (slice_index_or blocks k d).start - 8 ≤ place
  pub after : (k : ℕ) (d : Block) → count ≤ k → k < length blocks → place < (slice_index_or blocks k d).start - 8

-- the word is 0, below the lowest or above the highest
abbrev pub IsOutside : ℕ → ℕ → ℕ → Type 0
IsOutside low high word = (word ≡ 0) ⊎ (nat_lt word low || nat_lt high word ≡ true)

-- the words from `low` to `high` are those that aren't outside
pub record IsRange (blocks : List Block) (low high : ℕ) : Type 0 where
  pub tells : (word : ℕ) → is_outside blocks word ≡ (nat_lt word low || nat_lt high word)

-- the blocks from the number on have their size words at the place, or behind it
pub record AreBehind (blocks : List Block) (count place : ℕ) : Type 0 where
  pub each : (k : ℕ) (d : Block) → count ≤ k → k < length blocks → place ≤ (slice_index_or blocks k d).start - 8

-- from the first place up to the end, that one excluded, no place is near a block
pub record AreCalm (blocks : List Block) (links : Bool) (first end : ℕ) : Type 0 where
  pub none : (place : ℕ) → first ≤ place → place < end → is_near blocks links place ≡ false

-- what a sieve keeps with its blocks
pub record IsSieve (blocks : List Block) (low high passed : ℕ) : Type 0 where
  pub disjoint : AreDisjoint blocks
  pub range : IsRange blocks low high
  pub bound : passed ≤ length blocks
