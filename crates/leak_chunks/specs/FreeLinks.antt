-- Links of glibc's malloc to free chunks (malloc.c, `struct malloc_chunk` and `struct malloc_state`): the words of its
-- lists of free chunks, and its pointer to the top of a heap. Such a word is the address of a chunk's header. That begins 16
-- bytes before the chunk's own block, so in the last bytes of the block before it, or one past that block's end.
use Rattle.std.specs.Prelude.{ℕ, ◌+◌, ◌-◌, ◌%◌, Bool, false, not, ◌&&◌, ◌||◌, ◌==◌, List, filter, slice_get, Option}
use Rattle.std.specs.List.{list_any}
use Rattle.std.specs.Option.{option_map_or}
use Rattle.leak_blocks.specs.declared.block.Block.{Block}
use Rattle.leak_chunks.specs.Fit.{is_previous_in_use, is_mapped, chunk_size, least_chunk}

-- the header of the chunk after the block's, if the block's is the least for its size
abbrev pub next_header : Block → ℕ
next_header b = b.start + least_chunk b.size - 16

-- the size word is that of a chunk in a heap, and of the least one for the size
abbrev pub is_least_chunk_for : ℕ → ℕ → Bool
is_least_chunk_for size word = not (is_mapped word) && (chunk_size word == least_chunk size)

-- so the size word before the block says
abbrev pub has_least_chunk : (ℕ → Option ℕ) → Block → Bool
has_least_chunk word_at b = option_map_or (is_least_chunk_for b.size) (word_at (b.start - 8)) false

-- a live block begins at the address
abbrev pub has_start : List Block → ℕ → Bool
has_start blocks a = list_any (λ b. b.start == a) blocks

-- there is an address, and it is that many bytes before the place
abbrev pub is_before : Option ℕ → ℕ → ℕ → Bool
is_before address bytes place = option_map_or (λ a. a + bytes == place) address false

-- The list of the chunk with the header leads back to the place. In a chunk, as in a list's own head, the word that leads to
-- the next chunk is 16 bytes after the header, and the word that leads to the chunk before is 24 bytes after it.
abbrev pub leads_back : (ℕ → Option ℕ) → ℕ → ℕ → Bool
leads_back word_at header place =
    is_before (word_at (header + 24)) 16 place || is_before (word_at (header + 16)) 24 place

-- the size word is that of a heap's top with the header: the chunk before a top is in use, and a top ends where a page does
abbrev pub is_size_of_top : ℕ → ℕ → Bool
is_size_of_top header word =
    is_previous_in_use word && not (is_mapped word) && ((header + chunk_size word) % 4096 == 0)

-- the chunk with the header is the top of a heap, as its size word says
abbrev pub is_top : (ℕ → Option ℕ) → ℕ → Bool
is_top word_at header = option_map_or (is_size_of_top header) (word_at (header + 8)) false

-- the word at the place is malloc's link to the chunk with that header, which no live block has
abbrev pub links_to_free : (ℕ → Option ℕ) → List Block → ℕ → ℕ → Bool
links_to_free word_at blocks place word =
    not (has_start blocks (word + 16)) && (leads_back word_at word place || is_top word_at word)

-- The word at the place is a link to a free chunk as far as the block goes: it leads to the block because the header of
-- the chunk after the block's is there. A word that is a link as far as one block goes may lead to another.
unfoldable pub is_free_link : (ℕ → Option ℕ) → List Block → ℕ → ℕ → Block → Bool
is_free_link word_at blocks place word b =
    (b.start % 16 == 0) && (word == next_header b) && has_least_chunk word_at b
    && links_to_free word_at blocks place word

-- the same of the block with the number, if there is one
abbrev pub is_free_link_past : (ℕ → Option ℕ) → List Block → ℕ → ℕ → ℕ → Bool
is_free_link_past word_at blocks place word n =
    option_map_or (is_free_link word_at blocks place word) (slice_get blocks n) false

-- of the blocks with these numbers, those that are left when the word's links are dropped
abbrev pub without_free_links : (ℕ → Option ℕ) → List Block → ℕ → ℕ → List ℕ → List ℕ
without_free_links word_at blocks place word numbers =
    filter (λ n. not (is_free_link_past word_at blocks place word n)) numbers
