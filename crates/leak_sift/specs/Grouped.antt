-- Groups of 64 words, by bits.
use Rattle.std.specs.Prelude.{◌≡◌, ℕ, ◌^◌, ◌%◌, ◌<◌, ◌≤◌, ◌⊎◌, Bool, false, not, ◌||◌, if◌then◌else◌, List, slice_index_or}
use Rattle.std.specs.Int.{bit_at}
use Rattle.leak_blocks.specs.declared.block.Block.{Block}
use Rattle.leak_index.specs.Ranks.{none}
use Rattle.leak_sift.specs.Kept.{is_near, is_near_block, is_outside}

-- so many bits, of which those of flagged numbers are set
pub record AreBits (flag : ℕ → Bool) (count bits : ℕ) : Type 0 where
  pub narrow : bits < 2 ^ count
  pub each : (k : ℕ) → k < count → bit_at bits k ≡ (if flag k then 1 else 0)

-- the word at the place is kept, or is 0
abbrev pub is_kept : List Block → Bool → ℕ → ℕ → Bool
is_kept blocks links place word = is_near blocks links place || not (is_outside blocks word)

-- the first so many blocks are near neither the place nor a later one
pub record AreOff (blocks : List Block) (links : Bool) (place count : ℕ) : Type 0 where
  pub each : (k later : ℕ) → k < count → place ≤ later → is_near_block links later (slice_index_or blocks k none) ≡ false

-- so many words of those that are left, behind so many: fewer than 64, or whole groups behind whole groups
pub record IsPart (before left count : ℕ) : Type 0 where
  pub some : 0 < count
  pub within : count ≤ left
  pub groups : (count < 64) ⊎ ((before % 64 ≡ 0) × (count % 64 ≡ 0))
