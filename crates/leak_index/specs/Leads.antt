-- Which words lead to a block. Own rule, after bdwgc's conservative marking with interior pointers and displacements.
use Rattle.std.specs.Prelude.{ℕ, ◌+◌, ◌-◌, Bool, true, false, ◌&&◌, ◌||◌, max, List, nat_le, nat_lt, ◌==◌, Option, Some, None}
use Rattle.std.specs.List.{list_any}
use Rattle.leak_blocks.specs.declared.block.Block.{Block}

-- at which distances from its start a block is led to: the listed ones, or all, and whether the end is left out
pub record Distances : Type 0 where
  pub listed : Option (List ℕ)
  pub skips_ends : Bool

-- the distances from a block's start at which a word leads to it: all, or 0 and the listed ones
abbrev pub allows : Option (List ℕ) → ℕ → Bool
allows None distance = true
allows (Some listed) distance = (distance == 0) || list_any (λ d. d == distance) listed

-- the word is not past one past the block's end; or, if ends are left out, not past its last byte, and of an empty block
-- not past its start
abbrev pub is_up_to_end : Bool → ℕ → Block → Bool
is_up_to_end false word b = nat_le word (b.start + b.size)
is_up_to_end true word b = nat_lt word (b.start + max b.size 1)

-- the word is an address from the block's start to its end, as far as that counts, at a distance that the reading allows
abbrev pub leads : Distances → ℕ → Block → Bool
leads reading word b = nat_le b.start word && is_up_to_end reading.skips_ends word b && allows reading.listed (word - b.start)
