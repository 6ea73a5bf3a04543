-- Whether a core has a chunk in use of a live block's size (glibc's malloc, `struct malloc_chunk`). In the 8 bytes before
-- each block is its chunk's size word: the size of the chunk in bytes, whose three lowest bits are flags.
use Rattle.std.specs.Prelude.{ℕ, ◌+◌, ◌-◌, ◌*◌, ◌/◌, ◌%◌, max, Bool, false, not, ◌&&◌, ◌||◌, ◌==◌, nat_le, nat_lt, if◌then◌else◌, List, map, filter, Option}
use Rattle.std.specs.Int.Bits.{bit_and}
use Rattle.std.specs.Option.{option_map_or}
use Rattle.leak_blocks.specs.declared.block.Block.{Block}

-- bit 0, PREV_INUSE: the chunk before this one is in use
abbrev pub is_previous_in_use : ℕ → Bool
is_previous_in_use word = not (bit_and word 1 == 0)

-- bit 1, IS_MMAPPED: the chunk is a mapping of its own
abbrev pub is_mapped : ℕ → Bool
is_mapped word = not (bit_and word 2 == 0)

-- the size of the chunk is the word without its flags; bit 2, NON_MAIN_ARENA, says only whose heap it is in
abbrev pub chunk_size : ℕ → ℕ
chunk_size word = word / 8 * 8

-- a mapping takes the block and two words, rounded up to 16 bytes and then to a page of 4096
abbrev pub is_mapping_for : ℕ → ℕ → Bool
is_mapping_for size chunk = nat_le (size + 16) chunk && nat_lt chunk (size + 4128)

-- the least chunk of a heap for a block takes the block and one word, rounded up to 16 bytes, and no less than 32 bytes
abbrev pub least_chunk : ℕ → ℕ
least_chunk size = max 32 ((size + 8 + 15) / 16 * 16)

-- a rest of 16 bytes, which is too small for a chunk, stays with the block, and after an aligned block up to 32 bytes
abbrev pub is_heap_chunk_for : ℕ → ℕ → Bool
is_heap_chunk_for size chunk =
    (chunk == least_chunk size) || (chunk == least_chunk size + 16) || (chunk == least_chunk size + 32)

-- the size word there exists, and says that the chunk before it is in use
abbrev pub follows_one_in_use : (ℕ → Option ℕ) → ℕ → Bool
follows_one_in_use word_at a = option_map_or is_previous_in_use (word_at a) false

-- the block's size word fits its size, and of a chunk in a heap the next chunk says that it is in use
abbrev pub fits_word : (ℕ → Option ℕ) → Block → ℕ → Bool
fits_word word_at b word =
    if is_mapped word then is_mapping_for b.size (chunk_size word)
    else is_heap_chunk_for b.size (chunk_size word) && follows_one_in_use word_at (b.start + chunk_size word - 8)

-- the block fits the core. It begins above address 0, so a multiple of 16 has the size word's address before it.
unfoldable pub fits_core : (ℕ → Option ℕ) → Block → Bool
fits_core word_at b = (b.start % 16 == 0) && option_map_or (fits_word word_at b) (word_at (b.start - 8)) false

-- for each block in order, whether it fits
abbrev pub fits_of : (ℕ → Option ℕ) → List Block → List Bool
fits_of word_at blocks = map (fits_core word_at) blocks

-- the blocks that don't
abbrev pub misfits_of : (ℕ → Option ℕ) → List Block → List Block
misfits_of word_at blocks = filter (λ b. not (fits_core word_at b)) blocks
