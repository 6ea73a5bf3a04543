-- A small model of a heap of glibc's malloc (malloc.c, `struct malloc_chunk`): chunks one after another, the bytes that they lay
-- out, and the blocks that they serve.
use Rattle.std.specs.Prelude.{◌≡◌, ℕ, ◌+◌, ◌*◌, ◌^◌, ◌%◌, ◌<◌, ◌≤◌, Bool, true, List, [], ◌∷◌, ◌++◌, length, map, if◌then◌else◌, Option}
use Rattle.std.specs.Int.{w64, to_le_bytes}
use Rattle.std.specs.List.{AllByRecursion}
use Rattle.leak_elf.specs.Words.{IsRun}
use Rattle.leak_blocks.specs.declared.block.Block.{Block}
use Rattle.leak_chunks.specs.Fit.{fits_of, least_chunk, misfits_of}

-- A chunk: how many bytes were asked for, how many rests of 16 bytes stayed with it, whether it is in use, and whether another
-- arena than the main one has it. Before it is a word that is its block's neighbor's or says the size of a free one, and after
-- its size word come the bytes that a program or malloc wrote.
pub record Chunk : Type 0 where
  pub asked : ℕ
  pub rests : ℕ
  pub in_use : Bool
  pub other_arena : Bool
  pub before : ℕ
  pub contents : List ℕ

-- its bytes, its header among them
abbrev pub size_of : Chunk → ℕ
size_of c = least_chunk c.asked + 16 * c.rests

-- at most two rests stay with a chunk, its size fits a word, and its contents fill it
pub record IsChunk (c : Chunk) : Type 0 where
  pub few : c.rests ≤ 2
  pub fits : size_of c + 5 < 2 ^ 64
  pub filled : length c.contents + 16 ≡ size_of c

-- the flag that the chunk before is in use
abbrev pub flag_of : Bool → ℕ
flag_of previous = if previous then 1 else 0

-- its size word, which has two flags
abbrev pub size_word : Bool → Chunk → ℕ
size_word previous c = size_of c + (if c.other_arena then 4 else 0) + flag_of previous

-- the header of a chunk or of the top
abbrev pub header : ℕ → ℕ → List ℕ
header before word = to_le_bytes w64 before ++ to_le_bytes w64 word

-- the bytes of the chunks and of the header of the top, which comes last; the flag says whether a chunk before them is in use
abbrev pub heap_bytes : Bool → ℕ → List Chunk → List ℕ
heap_bytes previous top [] = header 0 (top + flag_of previous)
heap_bytes previous top (c ∷ chunks) = header c.before (size_word previous c) ++ c.contents ++ heap_bytes c.in_use top chunks

-- the block of a chunk with its header at the address
abbrev pub block_at : ℕ → Chunk → Block
block_at address c = record { start = address + 16; size = c.asked; line = 1; caller = (0, 0) }

-- the blocks of the chunks from the address on, of free ones too
abbrev pub blocks_from : ℕ → List Chunk → List Block
blocks_from address [] = []
blocks_from address (c ∷ chunks) = block_at address c ∷ blocks_from (address + size_of c) chunks

-- those of chunks in use
abbrev pub live_from : ℕ → List Chunk → List Block
live_from address [] = []
live_from address (c ∷ chunks) =
    if c.in_use then block_at address c ∷ live_from (address + size_of c) chunks else live_from (address + size_of c) chunks

-- From the address on are the bytes of a heap, whose chunks and top begin at multiples of 16. The first chunk of a heap says
-- that one before it is in use.
pub record IsHeapAt (word_at : ℕ → Option ℕ) (address top : ℕ) (chunks : List Chunk) : Type 0 where
  pub aligned : address % 16 ≡ 0
  pub top_aligned : top % 16 ≡ 0
  pub top_fits : top + 1 < 2 ^ 64
  pub each : AllByRecursion IsChunk chunks
  pub bytes : IsRun word_at address (heap_bytes true top chunks)

-- a block fits exactly if its chunk is in use
abbrev pub BlocksFitIfInUse : Type 0
BlocksFitIfInUse = (word_at : ℕ → Option ℕ) (address top : ℕ) (chunks : List Chunk) → IsHeapAt word_at address top chunks
    → fits_of word_at (blocks_from address chunks) ≡ map (λ c. c.in_use) chunks

-- so the blocks that are live have no misfit among them
abbrev pub LiveHeapsFit : Type 0
LiveHeapsFit = (word_at : ℕ → Option ℕ) (address top : ℕ) (chunks : List Chunk) → IsHeapAt word_at address top chunks
    → misfits_of word_at (live_from address chunks) ≡ []
