-- Worked links: a memory of 4096 bytes of zeros at 0x10000, with some words set, and whether a word there is a link to a free
-- chunk as far as a live block goes.
use Rattle.std.specs.Prelude.{◌≡◌, ℕ, Bool, true, false, List, [], ◌∷◌}
use Rattle.leak_blocks.specs.declared.block.Block.{Block}
use Rattle.leak_chunks.specs.FreeLinks.{is_free_link_past, without_free_links}
use Rattle.leak_chunks.specs.Rows.{word_there}

abbrev pub block : ℕ → ℕ → Block
block start size = record { start = start; size = size; line = 1; caller = (0, 0) }

-- the block that most rows are of: its least chunk has 0x30 bytes, and the header of the next is at 0x10120
abbrev pub block_of_32 : Block
block_of_32 = block 0x10100 0x20

-- whether the word 0x10120 at the place 0x10008 is a link as far as that block goes, if it alone is live
abbrev pub links : List (ℕ × ℕ) → Bool
links set = is_free_link_past (word_there set) (block_of_32 ∷ []) 0x10008 0x10120 0

-- the same for another place and word
abbrev pub links_from : List (ℕ × ℕ) → ℕ → ℕ → Bool
links_from set place word = is_free_link_past (word_there set) (block_of_32 ∷ []) place word 0

-- a list's head whose word at 0x10008 leads to the chunk after the block, and that chunk's word, which leads back to the head
abbrev pub listed : List (ℕ × ℕ)
listed = (0x100f8, 0x31) ∷ (0x10008, 0x10120) ∷ (0x10138, 0xfff8) ∷ []

-- the same head, with the size word of the chunk after the block
abbrev pub with_size : ℕ → List (ℕ × ℕ)
with_size word = (0x100f8, 0x31) ∷ (0x10008, 0x10120) ∷ (0x10128, word) ∷ []

pub record AreWorkedLinks : Type 0 where
  pub first_of_a_list : links listed ≡ true
  pub last_of_a_list : links ((0x100f8, 0x31) ∷ (0x10008, 0x10120) ∷ (0x10130, 0xfff0) ∷ []) ≡ true
  pub top : links (with_size 0xee1) ≡ true
  pub top_of_an_arena : links (with_size 0xee5) ≡ true
  pub top_of_two_pages : links (with_size 0x1ee1) ≡ true
  pub top_after_a_free_chunk : links (with_size 0xee0) ≡ false
  pub mapped_top : links (with_size 0xee3) ≡ false
  pub top_within_a_page : links (with_size 0xed1) ≡ false
  pub pointer_into_the_block : links (with_size 0) ≡ false
  pub another_place : links_from listed 0x10010 0x10120 ≡ false
  pub start_of_the_block : links_from listed 0x10008 0x10100 ≡ false
  pub another_word : links_from listed 0x10008 0x10118 ≡ false
  pub next_is_live : is_free_link_past (word_there listed) (block_of_32 ∷ block 0x10130 0x10 ∷ []) 0x10008 0x10120 0 ≡ false
  pub end_of_the_block : is_free_link_past (word_there ((0x100f8, 0x21) ∷ (0x10128, 0xfff8) ∷ [])) (block 0x10100 0x18 ∷ []) 0x10008 0x10110 0 ≡ true
  pub mapped : links ((0x100f8, 0x33) ∷ (0x10138, 0xfff8) ∷ []) ≡ false
  pub another_size : links ((0x100f8, 0x41) ∷ (0x10138, 0xfff8) ∷ []) ≡ false
  pub no_size_word : is_free_link_past (word_there ((0x10018, 0x10010) ∷ (0x10028, 0x10008) ∷ [])) (block 0x10000 0x10 ∷ []) 0x10018 0x10010 0 ≡ false
  pub not_of_16 : is_free_link_past (word_there ((0x10100, 0x31) ∷ (0x10140, 0xfff8) ∷ [])) (block 0x10108 0x20 ∷ []) 0x10008 0x10128 0 ≡ false
  pub no_such_block : is_free_link_past (word_there listed) (block_of_32 ∷ []) 0x10008 0x10120 1 ≡ false

-- the blocks that the word 0x10120 leads to, and those that are left without links
pub record AreWorkedHits : Type 0 where
  pub one : without_free_links (word_there listed) (block_of_32 ∷ []) 0x10008 0x10120 (0 ∷ []) ≡ []
  pub start_of_another : without_free_links (word_there listed) (block_of_32 ∷ block 0x10120 8 ∷ []) 0x10008 0x10120 (0 ∷ 1 ∷ []) ≡ 1 ∷ []
  pub kept : without_free_links (word_there (with_size 0)) (block_of_32 ∷ []) 0x10008 0x10120 (0 ∷ []) ≡ 0 ∷ []
  pub none : without_free_links (word_there listed) (block_of_32 ∷ []) 0x10008 0x10120 [] ≡ []
