-- The sample core: one thread status, all zero, and one writable segment of 4096 zero bytes at 0x10000.
use Rattle.std.specs.Prelude.{◌≡◌, ◌≤◌, ℕ, ◌+◌, ◌-◌, ◌%◌, List, [], ◌∷◌, ◌++◌, take, drop, length, replicate}
use Rattle.std.specs.Int.{w16, w32, w64, to_le_bytes}

-- this many zero bytes
unfoldable pub zeros : ℕ → List ℕ
zeros n = replicate n 0

-- the list with the bytes from the offset on replaced
abbrev pub patched : List ℕ → ℕ → List ℕ → List ℕ
patched file offset bytes = take offset file ++ bytes ++ drop (offset + length bytes) file

-- the file header of a core with this many program headers, which follow it
unfoldable pub file_header : ℕ → List ℕ
file_header phnum =
    (0x7f ∷ 0x45 ∷ 0x4c ∷ 0x46 ∷ 2 ∷ 1 ∷ 1 ∷ []) ++ zeros 9
    ++ to_le_bytes w16 4 ++ to_le_bytes w16 62 ++ to_le_bytes w32 1 ++ zeros 8
    ++ to_le_bytes w64 64 ++ zeros 12 ++ to_le_bytes w16 64 ++ to_le_bytes w16 56 ++ to_le_bytes w16 phnum ++ zeros 6

unfoldable pub program_header : ℕ → ℕ → ℕ → ℕ → ℕ → ℕ → ℕ → List ℕ
program_header kind flags offset vaddr filesz memsz align =
    to_le_bytes w32 kind ++ to_le_bytes w32 flags ++ to_le_bytes w64 offset ++ to_le_bytes w64 vaddr
    ++ to_le_bytes w64 0 ++ to_le_bytes w64 filesz ++ to_le_bytes w64 memsz ++ to_le_bytes w64 align

-- a thread status of zeros, after the sizes and the name of its entry
unfoldable pub note_entry : List ℕ
note_entry = to_le_bytes w32 5 ++ to_le_bytes w32 336 ++ to_le_bytes w32 1 ++ (0x43 ∷ 0x4f ∷ 0x52 ∷ 0x45 ∷ []) ++ zeros 4 ++ zeros 336

-- the 4096 bytes before the segment
unfoldable pub front : List ℕ
front =
    file_header 2 ++ program_header 4 0 176 0 356 0 4 ++ program_header 1 6 4096 0x10000 4096 4096 4096
    ++ note_entry ++ zeros 3564

unfoldable pub sample : List ℕ
sample = front ++ zeros 4096

-- the same with a third program header, which comes before the notes
unfoldable pub sample_of_three : List ℕ → List ℕ
sample_of_three third =
    file_header 3 ++ program_header 4 0 232 0 356 0 4 ++ program_header 1 6 4096 0x10000 4096 4096 4096 ++ third
    ++ note_entry ++ zeros 3508 ++ zeros 4096

-- the address of a word in the segment
pub record IsSampleAddress (addr : ℕ) : Type 0 where
  pub multiple : addr % 8 ≡ 0
  pub from_start : 0x10000 ≤ addr
  pub to_end : addr ≤ 0x10ff8

-- the core with the words set one after another: the offset of a word of the segment is its address less 0xf000
abbrev pub with_words : List ℕ → List (ℕ × ℕ) → List ℕ
with_words file [] = file
with_words file (w ∷ ws) = with_words (patched file (w.0 - 0xf000) (to_le_bytes w64 w.1)) ws

-- the sample core with the words set
unfoldable pub sample_with : List (ℕ × ℕ) → List ℕ
sample_with words = with_words sample words
