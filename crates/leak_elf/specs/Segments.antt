-- Segments and parts of notes of a file (System V gABI, elf(5)).
use Rattle.std.specs.Prelude.{false, take, ◌||◌, ℕ, ◌≤◌, ◌<◌, slice_index_or, ◌+◌, ◌-◌, ◌^◌, min, max, Bool, List, [], ◌∷◌, length, map, filter, nat_lt, if◌then◌else◌, slice_range, sum_by}
use Rattle.std.specs.List.{list_any}
use Rattle.leak_elf.specs.declared.header.Header.{Header}
use Rattle.leak_elf.specs.declared.segment.Segment.{Segment}
use Rattle.leak_elf.specs.declared.segment.NotePart.{NotePart}
use Rattle.leak_elf.specs.Headers.{headers, is_note, is_writable, has_addresses}

-- the segments by ascending address: s among those of the list
abbrev pub by_address : Segment → List Segment → List Segment
by_address s [] = s ∷ []
by_address s (t ∷ ts) = if nat_lt s.vaddr t.vaddr then s ∷ t ∷ ts else t ∷ by_address s ts

-- by ascending address
abbrev pub IsAscending : List Segment → Type 0
IsAscending segments = (j k : ℕ) (d : Segment) → j ≤ k → k < length segments → (slice_index_or segments j d).vaddr ≤ (slice_index_or segments k d).vaddr

-- the segment with the number is the last that begins at the address or before it
pub record IsLastUpTo (segments : List Segment) (number addr : ℕ) (d : Segment) : Type 0 where
  pub begins : (slice_index_or segments number d).vaddr ≤ addr
  pub last : number + 1 < length segments → addr < (slice_index_or segments (number + 1) d).vaddr

-- those of the second list, one after another, among the first
abbrev pub ascending : List Segment → List Segment → List Segment
ascending sorted [] = sorted
ascending sorted (s ∷ ss) = ascending (by_address s sorted) ss

abbrev pub segment_of : Header → Segment
segment_of h = record { vaddr = h.vaddr; memsz = h.memsz; offset = h.offset; filesz = h.filesz; writable = is_writable h }

-- the segments of the headers that have addresses
abbrev pub kept_of : List Header → List Segment
kept_of hs = ascending [] (map segment_of (filter has_addresses hs))

unfoldable pub segments_of : List ℕ → List Segment
segments_of file = kept_of (headers file)

abbrev pub part_of : Header → NotePart
part_of h = record { offset = h.offset; filesz = h.filesz }

unfoldable pub note_parts_of : List ℕ → List NotePart
note_parts_of file = map part_of (filter is_note (headers file))

-- the bytes of a segment or of a part
abbrev pub bytes_at : List ℕ → ℕ → ℕ → List ℕ
bytes_at file offset filesz = slice_range file offset (offset + filesz)

-- what the file lacks of the writable segments
abbrev pub lacking : List Segment → ℕ
lacking segments = sum_by (λ s. s.memsz - s.filesz) (filter (λ s. s.writable) segments)

unfoldable pub undumped_of : List ℕ → ℕ
undumped_of file = lacking (segments_of file)

-- a segment has addresses, which end below 2 ^ 64, and no more dumped bytes than addresses
pub record IsKeptSegment (s : Segment) : Type 0 where
  pub some : 0 < s.memsz
  pub sizes : s.filesz ≤ s.memsz
  pub high : s.vaddr + s.memsz < 2 ^ 64

-- two segments have an address in common
abbrev pub shares : Segment → Segment → Bool
shares s t = nat_lt (max t.vaddr s.vaddr) (min (t.vaddr + t.memsz) (s.vaddr + s.memsz))

-- two segments of the list have an address in common
abbrev pub any_meet : List Segment → Bool
any_meet [] = false
any_meet (s ∷ ss) = list_any (shares s) ss || any_meet ss

-- two segments of the first n headers have an address in common
unfoldable pub meet_within : List Header → ℕ → Bool
meet_within hs n = any_meet (kept_of (take n hs))

-- the segments ascend, and no two have an address in common
pub record AreKeptSegments (segments : List Segment) : Type 0 where
  pub apart : (j k : ℕ) (d : Segment) → j < k → k < length segments → (slice_index_or segments j d).vaddr + (slice_index_or segments j d).memsz ≤ (slice_index_or segments k d).vaddr
  pub each : (k : ℕ) (d : Segment) → k < length segments → IsKeptSegment (slice_index_or segments k d)

-- and their dumped bytes are in the file
pub record AreSegments (file : List ℕ) (segments : List Segment) : Type 0 where
  pub kept : AreKeptSegments segments
  pub dumped : (k : ℕ) (d : Segment) → k < length segments → 0 < (slice_index_or segments k d).filesz → (slice_index_or segments k d).offset + (slice_index_or segments k d).filesz ≤ length file

-- the bytes of each part are in the file
abbrev pub AreParts : List ℕ → List NotePart → Type 0
AreParts file parts = (k : ℕ) (d : NotePart) → k < length parts → 0 < (slice_index_or parts k d).filesz → (slice_index_or parts k d).offset + (slice_index_or parts k d).filesz ≤ length file
