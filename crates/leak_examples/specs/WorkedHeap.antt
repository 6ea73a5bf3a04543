-- A worked heap: the bytes of three chunks and a top in a core, and which of their blocks fit it.
use Rattle.std.specs.Prelude.{◌≡◌, ℕ, ◌-◌, Bool, true, false, List, [], ◌∷◌, ◌++◌, length}
use Rattle.leak_elf.specs.Sample.{file_header, note_entry, program_header, zeros}
use Rattle.leak_elf.specs.Words.{word_of}
use Rattle.leak_chunks.specs.Fit.{fits_of, least_chunk, misfits_of}
use Rattle.leak_examples.specs.Heap.{Chunk, block_at, blocks_from, heap_bytes, live_from}

-- a chunk of which this many bytes were asked for, with zeros in it
abbrev pub chunk : ℕ → ℕ → Bool → Bool → Chunk
chunk asked rests in_use other_arena = record { asked = asked; rests = rests; in_use = in_use; other_arena = other_arena; before = 0; contents = zeros (least_chunk asked - 16) }

-- of 48, 32 and 32 bytes, the second of them given back and the third of another arena
abbrev pub three_chunks : List Chunk
three_chunks = chunk 0x20 0 true false ∷ chunk 8 0 false false ∷ chunk 0 0 true true ∷ []

-- a core with them from 0x10000 on, and the header of a top after them
unfoldable pub heap_core : List ℕ
heap_core =
    file_header 2 ++ program_header 4 0 176 0 356 0 4 ++ program_header 1 6 532 0x10000 128 128 8
    ++ note_entry ++ heap_bytes true 0xf90 three_chunks

pub record IsWorkedHeap : Type 0 where
  pub sizes : length (heap_bytes true 0xf90 three_chunks) ≡ 128
  pub fit : fits_of (word_of heap_core) (blocks_from 0x10000 three_chunks) ≡ true ∷ false ∷ true ∷ []
  pub live : misfits_of (word_of heap_core) (live_from 0x10000 three_chunks) ≡ []
  pub given_back : misfits_of (word_of heap_core) (blocks_from 0x10000 three_chunks) ≡ block_at 0x10030 (chunk 8 0 false false) ∷ []
  pub one_byte_more : fits_of (word_of heap_core) (block_at 0x10000 (chunk 0x29 0 true false) ∷ []) ≡ false ∷ []
  pub sixteen_fewer : fits_of (word_of heap_core) (block_at 0x10000 (chunk 0x18 0 true false) ∷ []) ≡ true ∷ []
