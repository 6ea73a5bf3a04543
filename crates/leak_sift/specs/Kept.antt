-- Which words of a core a search needs. Own rule: those that may lead to a live block, and those at the places where
-- malloc's rules may ask for a word as something else than a pointer. For each other word 0 does as well.
use Rattle.std.specs.Prelude.{ℕ, ◌+◌, ◌-◌, Bool, true, not, ◌&&◌, ◌||◌, ◌==◌, nat_lt, List, [], ◌∷◌, length, slice_get, if◌then◌else◌}
use Rattle.std.specs.List.{list_any}
use Rattle.std.specs.Option.{option_map_or}
use Rattle.leak_blocks.specs.declared.block.Block.{Block}
use Rattle.leak_chunks.specs.Fit.{least_chunk}

-- what decides: the live blocks by ascending start, and whether links to free chunks are left out
pub record Rule : Type 0 where
  pub blocks : List Block
  pub links : Bool

-- how far the asked words are from the size word that follows a block's least chunk: the chunk may have 16 or 32 bytes
-- more, and the links of a free chunk are 8 and 16 bytes after its size word
abbrev pub distances : Bool → List ℕ
distances links = if links then 0 ∷ 8 ∷ 16 ∷ 32 ∷ [] else 0 ∷ 16 ∷ 32 ∷ []

-- the place is that of the block's own size word, or at such a distance
abbrev pub is_near_block : Bool → ℕ → Block → Bool
is_near_block links place b = (place == b.start - 8) || list_any (λ d. place == b.start + least_chunk b.size - 8 + d) (distances links)

abbrev pub is_near : List Block → Bool → ℕ → Bool
is_near blocks links place = list_any (is_near_block links place) blocks

-- the word is below the start of the first block, or above the end of the last. If there is no block, each word is.
abbrev pub is_outside : List Block → ℕ → Bool
is_outside blocks word =
    option_map_or (λ b. nat_lt word b.start) (slice_get blocks 0) true
    || option_map_or (λ b. nat_lt (b.start + b.size) word) (slice_get blocks (length blocks - 1)) true

-- what is kept of the word at the place
abbrev pub kept_of : List Block → Bool → ℕ → ℕ → ℕ
kept_of blocks links place word = if is_outside blocks word && not (is_near blocks links place) then 0 else word
