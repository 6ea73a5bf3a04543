-- Worked words: what is kept of them, with a block of 24 bytes at 0x10010, whose least chunk has 32 bytes, and one of 25
-- bytes at 0x10110, whose least chunk has 48; and with blocks that are empty or at the ends of the address space.
use Rattle.std.specs.Prelude.{◌≡◌, ℕ, true, false, List, [], ◌∷◌}
use Rattle.leak_blocks.specs.declared.block.Block.{Block}
use Rattle.leak_sift.specs.Kept.{is_near, is_outside, kept_of}

abbrev pub block : ℕ → ℕ → Block
block start size = record { start = start; size = size; line = 1; caller = (0, 0) }

abbrev pub two_blocks : List Block
two_blocks = block 0x10010 24 ∷ block 0x10110 25 ∷ []

-- without links left out, and with them
abbrev pub kept : ℕ → ℕ → ℕ
kept place word = kept_of two_blocks false place word

abbrev pub kept_with_links : ℕ → ℕ → ℕ
kept_with_links place word = kept_of two_blocks true place word

-- words far from each block
pub record AreWorkedWords : Type 0 where
  pub below : kept 0x20000 0x1000f ≡ 0
  pub first_start : kept 0x20000 0x10010 ≡ 0x10010
  pub between : kept 0x20000 0x10080 ≡ 0x10080
  pub last_end : kept 0x20000 0x10129 ≡ 0x10129
  pub above : kept 0x20000 0x1012a ≡ 0
  pub zero : kept 0x20000 0 ≡ 0

-- words that lead to no block, near the first block and near the last
pub record AreWorkedPlaces : Type 0 where
  pub before_size : kept 0x10000 0x21 ≡ 0
  pub size : kept 0x10008 0x21 ≡ 0x21
  pub in_block : kept 0x10010 0x21 ≡ 0
  pub next_size : kept 0x10028 0x21 ≡ 0x21
  pub next_link : kept 0x10030 0x21 ≡ 0
  pub next_link_asked : kept_with_links 0x10030 0x21 ≡ 0x21
  pub sixteen_more : kept 0x10038 0x21 ≡ 0x21
  pub twenty_four_more : kept_with_links 0x10040 0x21 ≡ 0
  pub thirty_two_more : kept 0x10048 0x21 ≡ 0x21
  pub forty_more : kept_with_links 0x10050 0x21 ≡ 0
  pub last_size : kept 0x10108 0x21 ≡ 0x21
  pub odd_size : kept 0x10138 0x21 ≡ 0x21
  pub least_of_24 : kept 0x10128 0x21 ≡ 0

-- blocks near the ends of the address space, and none
pub record AreWorkedEnds : Type 0 where
  pub no_block : is_outside [] 0x10010 ≡ true
  pub no_block_near : is_near [] true 0 ≡ false
  pub no_place_before : is_near (block 8 0 ∷ []) false 0 ≡ true
  pub below_eight : is_near (block 3 0 ∷ []) false 0 ≡ true
  pub empty : is_near (block 0x10010 0 ∷ []) false 0x10028 ≡ true
  pub empty_end : is_outside (block 0x10010 0 ∷ []) 0x10010 ≡ false
  pub last_place : is_near (block 0xffffffffffffffe0 8 ∷ []) false 0xfffffffffffffff8 ≡ true
  pub largest : is_near (block 0x10 0xffffffffffffffe8 ∷ []) true 0 ≡ false
