-- Where the bytes of a core file lie in memory (gABI, PT_LOAD).
use Rattle.std.specs.Prelude.{ℕ, ◌+◌, ◌-◌, ◌<◌, ◌≤◌, Bool, false, ◌&&◌, nat_le, nat_lt, find, List, length, slice_index_or, Option, option_map}
use Rattle.leak_elf.specs.declared.segment.Segment.{Segment}

-- the byte at the file offset is a dumped one of the segment
abbrev pub has_offset : ℕ → Segment → Bool
has_offset offset s = nat_le s.offset offset && nat_lt offset (s.offset + s.filesz)

-- the address of that byte, if a segment has it
unfoldable pub place_of : List Segment → ℕ → Option ℕ
place_of segments offset = option_map (λ s. s.vaddr + (offset - s.offset)) (find (has_offset offset) segments)

-- what stands for a segment whose number is out of range
abbrev pub none : Segment
none = record { vaddr = 0; memsz = 0; offset = 0; filesz = 0; writable = false }

-- where the dumped bytes of the segment with the number begin in the file, and how many there are
abbrev pub offset_at : List Segment → ℕ → ℕ
offset_at segments k = (slice_index_or segments k none).offset

abbrev pub filesz_at : List Segment → ℕ → ℕ
filesz_at segments k = (slice_index_or segments k none).filesz

-- by ascending address, the dumped parts ascend in the file too: each begins where the earlier ones end, or after that
pub record AreOrderly (segments : List Segment) : Type 0 where
  pub apart : (j k : ℕ) → j < k → k < length segments → 0 < filesz_at segments j → 0 < filesz_at segments k
      → offset_at segments j + filesz_at segments j ≤ offset_at segments k
