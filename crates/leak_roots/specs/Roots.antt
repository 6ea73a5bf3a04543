-- Root words: the registers, and the readable words of writable segments that share no byte with a live block
-- (after bdwgc's roots). Own rule: freed memory and dead stack are roots, since what points from there is not known. If
-- the spans of small allocations are given, the words of freed memory are left out. If the slack of live blocks is
-- given, which is in no block, its words are left out too, and then those of dead stack, if that is given. Memory that
-- can't be written, as after mprotect(2), may hold what was written before: unless it is left out, its words are root
-- words too (after LeakSanitizer, which reads all readable memory of data).
use Rattle.std.specs.Prelude.{◌≡◌, ℕ, ◌+◌, ◌<◌, ◌≤◌, ◌^◌, length, slice_index_or, min, max, Bool, not, ◌&&◌, ◌||◌, ◌%◌, ◌==◌, List, ◌++◌, nat_lt, filter, flat_map, filter_map, is_some}
use Rattle.std.specs.List.{list_all, range_with_len}
use Rattle.leak_elf.specs.declared.segment.Segment.{Segment}
use Rattle.leak_elf.specs.Segments.{segments_of}
use Rattle.leak_elf.specs.Words.{places, word_of}
use Rattle.leak_notes.specs.Threads.{registers_of}
use Rattle.leak_blocks.specs.declared.block.Block.{Block}
use Rattle.leak_blocks.specs.declared.small.Span.{Span}
use Rattle.leak_blocks.specs.Small.{is_covered}
use Rattle.leak_roots.specs.Places.{Places, memory_places, AreRanges}
use Rattle.leak_roots.specs.LeftOut.{LeftOut}

-- the 8 bytes from the address on are apart from the bytes of the block; a block of size 0 has none
abbrev pub is_apart : ℕ → Block → Bool
is_apart a b = not (nat_lt (max a b.start) (min (a + 8) (b.start + b.size)))

-- blocks by ascending address, each ending in the address space and before the next begins
pub record AreOrdered (blocks : List Block) : Type 0 where
  pub apart : (j k : ℕ) (d : Block) → j < k → k < length blocks
      → (slice_index_or blocks j d).start + (slice_index_or blocks j d).size
      ≤ (slice_index_or blocks k d).start
  pub fit : (k : ℕ) (d : Block) → k < length blocks
      → (slice_index_or blocks k d).start + (slice_index_or blocks k d).size < 2 ^ 64

-- an address of a root word, as far as the blocks say
abbrev pub is_free : List Block → ℕ → Bool
is_free blocks a = (a % 8 == 0) && list_all (is_apart a) blocks

-- the addresses of a segment that hold a word and share no byte with a live block
abbrev pub outside_places_in : List ℕ → List Block → Segment → List ℕ
outside_places_in file blocks s =
    filter (λ a. is_some (word_of file a) && list_all (is_apart a) blocks)
    (places s.vaddr (s.vaddr + s.filesz))

-- a segment has root words if it is writable; unless what can't be written is left out, each has
unfoldable pub has_roots : Bool → Segment → Bool
has_roots unwritable s = s.writable || not unwritable

-- the addresses that hold a word and share no byte with a live block, of the segments with root words, in ascending order
unfoldable pub outside_places : Bool → List ℕ → List Block → List ℕ
outside_places unwritable file blocks =
    flat_map (outside_places_in file blocks) (filter (has_roots unwritable) (segments_of file))

-- each of the 8 bytes from the address on lies in a span, not all of them in the same one
abbrev pub is_inside : List Span → ℕ → Bool
is_inside spans a = list_all (is_covered spans) (range_with_len a 8)

-- the addresses outside live blocks whose words are left out since they are freed
unfoldable pub freed_places : LeftOut → List ℕ → List Block → List ℕ
freed_places left file blocks = filter (is_inside left.freed) (outside_places left.unwritable file blocks)

-- those that are neither freed nor in the slack
unfoldable pub kept_places : LeftOut → List ℕ → List Block → List ℕ
kept_places left file blocks =
    filter (λ a. not (is_inside left.slack a))
    (filter (λ a. not (is_inside left.freed a)) (outside_places left.unwritable file blocks))

-- those of them in dead stack
unfoldable pub dead_places : LeftOut → List ℕ → List Block → List ℕ
dead_places left file blocks = filter (is_inside left.dead) (kept_places left file blocks)

-- the addresses that hold a root word, in ascending order: those that are neither freed nor in the slack nor in dead stack
unfoldable pub root_places : LeftOut → List ℕ → List Block → List ℕ
root_places left file blocks = filter (λ a. not (is_inside left.dead a)) (kept_places left file blocks)

-- the root words of a core: registers first, then memory by address
unfoldable pub root_words : LeftOut → List ℕ → List Block → List ℕ
root_words left file blocks = registers_of file ++ filter_map (word_of file) (root_places left file blocks)

-- these are the places of the core's root words, each once, and the numbers of freed and of dead places
pub record AreRootsOf (left : LeftOut) (file : List ℕ) (blocks : List Block) (p : Places) : Type 0 where
  pub registers : p.registers ≡ registers_of file
  pub memory : memory_places p.memory ≡ root_places left file blocks
  pub ranges : AreRanges p.memory
  pub freed : p.freed ≡ length (freed_places left file blocks)
  pub dead : p.dead ≡ length (dead_places left file blocks)
