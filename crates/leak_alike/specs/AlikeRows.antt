-- Words and cores that are alike, and some that aren't, with one live block of 24 bytes at 0x10010; and for which words
-- a rule asks.
use Rattle.std.specs.Prelude.{ℕ, List, [], ◌∷◌, ◌++◌, true, false, None, Some}
use Rattle.std.specs.Int.{w64, to_le_bytes}
use Rattle.leak_elf.specs.Sample.{patched, sample}
use Rattle.leak_blocks.specs.declared.block.Block.{Block}
use Rattle.leak_index.specs.Hits.{Index}
use Rattle.leak_roots.specs.Skipped.{usual_skip}
use Rattle.leak_roots.specs.declared.skip.Skip.{Skip}
use Rattle.leak_alike.specs.Alike.{AreAlikeCores, AreAlikeWords, IsAsked}

abbrev pub block : Block
block = record { start = 0x10010; size = 24; line = 1; caller = (0, 0) }

abbrev pub one_block : Index
one_block = record { blocks = block ∷ []; reading = record { listed = None; skips_ends = false } }

-- a block in the next chunk, if the chunk of the other is the least
abbrev pub next_block : Block
next_block = record { start = 0x10030; size = 24; line = 2; caller = (0, 0) }

-- with links left out
abbrev pub without_links : Skip
without_links = record usual_skip { links = true }

-- the sample core, dumped as far as two words: one at 0x10000, for which no rule asks, and the block's size word
unfoldable pub core_of : ℕ → ℕ → List ℕ
core_of word size = patched (patched sample 152 (to_le_bytes w64 16)) 4096 (to_le_bytes w64 word ++ to_le_bytes w64 size)

pub record AreWorkedAlike : Type 0 where
  pub equal : AreAlikeWords one_block (Some 0x10018) (Some 0x10018)
  pub nowhere : AreAlikeWords one_block (Some 0x1000f) (Some 0x10029)
  pub to_the_end : AreAlikeWords one_block (Some 0x1000f) (Some 0x10028) → ⊥
  pub another_place : AreAlikeWords one_block (Some 0x10010) (Some 0x10018) → ⊥
  pub no_word : AreAlikeWords one_block (Some 0x1000f) None → ⊥
  pub cores : AreAlikeCores one_block usual_skip (core_of 7 0x21) (core_of 8 0x21)
  pub pointer : AreAlikeCores one_block usual_skip (core_of 7 0x21) (core_of 0x10010 0x21) → ⊥
  pub another_size : AreAlikeCores one_block usual_skip (core_of 7 0x21) (core_of 7 0x31) → ⊥
  -- the size word after a chunk of 64 bytes, which fits the block, and after one of 80, which doesn't
  pub fits : IsAsked (core_of 7 0x41) (block ∷ []) usual_skip 0x10048
  pub too_large : IsAsked (core_of 7 0x51) (block ∷ []) usual_skip 0x10058 → ⊥
  -- a link after a least chunk: in a chunk that no live block has, and in one that a live block has
  pub link : IsAsked (core_of 7 0x21) (block ∷ []) without_links 0x10030
  pub no_link : IsAsked (core_of 7 0x21) (block ∷ next_block ∷ []) without_links 0x10030 → ⊥
