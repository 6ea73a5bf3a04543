-- Worked targets, and worked heads.
use Rattle.std.specs.Prelude.{◌≡◌, ℕ, ◌%◌, true, false, List, [], ◌∷◌, find, ◌==◌, if◌then◌else◌, Option, Some, None}
use Rattle.std.specs.Option.{option_map_or}
use Rattle.leak_blocks.specs.declared.block.Block.{Block}
use Rattle.leak_index.specs.Hits.{Index}
use Rattle.leak_index.specs.Laws.{index_by}
use Rattle.leak_scan.specs.Targets.{block_words, block_words_on, block_targets}
use Rattle.leak_scan.specs.Heads.{heads_of}

abbrev pub block : ℕ → ℕ → ℕ → Block
block start size number = record { start = start; size = size; line = number; caller = (0, 0) }

-- every multiple of 8 is readable, and has the word set there, or 0
abbrev pub memory : List (ℕ × ℕ) → ℕ → Option ℕ
memory set a = if a % 8 == 0 then Some (option_map_or (λ s. s.1) (find (λ s. s.0 == a) set) 0) else None

-- the blocks by every distance, with their ends
abbrev pub index : List Block → Index
index blocks = index_by false None blocks

-- and without
abbrev pub inner : List Block → Index
inner blocks = index_by true None blocks

pub record AreWorkedTargets : Type 0 where
  pub words : block_words (memory ((0x10108, 7) ∷ [])) (block 0x10104 0x14 1) ≡ 7 ∷ 0 ∷ []
  pub short : block_words (memory ((0x10100, 1) ∷ (0x10108, 7) ∷ [])) (block 0x10100 0xc 1) ≡ 1 ∷ []
  pub paged : block_words_on (memory ((0x10ff8, 1) ∷ (0x11000, 7) ∷ [])) (17 ∷ []) (block 0x10ff8 0x10 1) ≡ 7 ∷ []
  pub targets : block_targets (memory ((0x10100, 0x10200) ∷ [])) (index (block 0x10100 0x10 1 ∷ block 0x10200 0x10 2 ∷ [])) (block 0x10100 0x10 1) ≡ 1 ∷ []
  pub both : block_targets (memory ((0x10100, 0x10110) ∷ [])) (index (block 0x10100 0x10 1 ∷ block 0x10110 0x10 2 ∷ [])) (block 0x10100 0x10 1) ≡ 0 ∷ 1 ∷ []
  pub second : block_targets (memory ((0x10100, 0x10110) ∷ [])) (inner (block 0x10100 0x10 1 ∷ block 0x10110 0x10 2 ∷ [])) (block 0x10100 0x10 1) ≡ 1 ∷ []
  pub end : block_targets (memory ((0x10100, 0x10210) ∷ [])) (index (block 0x10100 0x10 1 ∷ block 0x10200 0x10 2 ∷ [])) (block 0x10100 0x10 1) ≡ 1 ∷ []
  pub left_out : block_targets (memory ((0x10100, 0x10210) ∷ [])) (inner (block 0x10100 0x10 1 ∷ block 0x10200 0x10 2 ∷ [])) (block 0x10100 0x10 1) ≡ []

-- the first leads to the second and to itself; a word one past the end of the first leads to it, unless ends are left out;
-- a ring; a holder that is in the set holds nothing
pub record AreWorkedHeads : Type 0 where
  pub own_word : heads_of (memory ((0x10100, 0x10200) ∷ (0x10108, 0x10100) ∷ [])) (index (block 0x10100 0x20 1 ∷ block 0x10200 0x10 2 ∷ block 0x10300 8 3 ∷ [])) (false ∷ false ∷ false ∷ []) ≡ true ∷ false ∷ true ∷ []
  pub past_the_end : heads_of (memory ((0x10200, 0x10120) ∷ [])) (index (block 0x10100 0x20 1 ∷ block 0x10200 0x10 2 ∷ [])) (false ∷ false ∷ []) ≡ false ∷ true ∷ []
  pub left_out : heads_of (memory ((0x10200, 0x10120) ∷ [])) (inner (block 0x10100 0x20 1 ∷ block 0x10200 0x10 2 ∷ [])) (false ∷ false ∷ []) ≡ true ∷ true ∷ []
  pub ring : heads_of (memory ((0x10100, 0x10200) ∷ (0x10200, 0x10100) ∷ [])) (index (block 0x10100 0x20 1 ∷ block 0x10200 0x10 2 ∷ [])) (false ∷ false ∷ []) ≡ false ∷ false ∷ []
  pub marked : heads_of (memory ((0x10100, 0x10200) ∷ [])) (index (block 0x10100 0x20 1 ∷ block 0x10200 0x10 2 ∷ [])) (true ∷ false ∷ []) ≡ false ∷ true ∷ []
