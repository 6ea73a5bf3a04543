-- Where the words are that rules ask for: at fixed distances from live blocks, but for those that tell of stacks.
use Rattle.std.specs.Prelude.{ℕ, ◌+◌, ◌-◌, ◌⊎◌, Bool, List, [], ◌∷◌, if◌then◌else◌}
use Rattle.std.specs.List.{Contains}
use Rattle.leak_blocks.specs.declared.block.Block.{Block}
use Rattle.leak_chunks.specs.Fit.{least_chunk}
use Rattle.leak_roots.specs.declared.skip.Skip.{Skip}
use Rattle.leak_alike.specs.Alike.{IsAsked}

-- how far they are from the size word that follows a block's least chunk: those of links only if these are left out
abbrev pub distances : Bool → List ℕ
distances links = if links then 0 ∷ 8 ∷ 16 ∷ 32 ∷ [] else 0 ∷ 16 ∷ 32 ∷ []

-- the address is that of a live block's own size word, or at such a distance
pub data IsNear (blocks : List Block) (links : Bool) : ℕ → Type 0 where
  own : (b : Block) → Contains blocks b → IsNear blocks links (b.start - 8)
  past : (b : Block) (distance : ℕ) → Contains blocks b → Contains (distances links) distance
      → IsNear blocks links (b.start + least_chunk b.size - 8 + distance)

-- each word that rules ask for is there, or they ask for it without any block, so for what it tells of a stack
abbrev pub AskedAreNear : Type 0
AskedAreNear = (core : List ℕ) (blocks : List Block) (skip : Skip) (a : ℕ) → IsAsked core blocks skip a
    → IsNear blocks skip.links a ⊎ IsAsked core [] skip a
