-- The head of a file: its first bytes, which have its headers and notes. Behind it there are only words of segments
-- (System V gABI, elf(5)).
use Rattle.std.specs.Prelude.{◌≡◌, ◌≤◌, ◌<◌, ◌⊎◌, true, false, ℕ, ◌+◌, ◌*◌, ◌%◌, ◌^◌, ◌&&◌, nat_le, ◌==◌, if◌then◌else◌, List, [], ◌++◌, length, slice_index_or, Option, Some, None, IfSome}
use Rattle.std.specs.Int.{w64}
use Rattle.leak_elf.specs.declared.segment.Segment.{Segment}
use Rattle.leak_elf.specs.Fields.{number_at, e_phoff}
use Rattle.leak_elf.specs.Headers.{is_extended, lacks_section_header, header_count}
use Rattle.leak_elf.specs.Segments.{segments_of, note_parts_of, AreSegments, AreParts}

-- the number of 64 bits at an offset that is a multiple of 8, if the bytes have it
unfoldable pub aligned_number_at : List ℕ → ℕ → Option ℕ
aligned_number_at bytes at = if at % 8 == 0 && nat_le (at + 8) (length bytes) then Some (number_at w64 bytes at) else None

-- the later offset is a multiple of 8, and each word from the first on before it is 0
pub record AreZerosUpTo (bytes : List ℕ) (at later : ℕ) : Type 0 where
  pub at_or_after : at ≤ later
  pub multiple : later % 8 ≡ 0
  pub each : (k : ℕ) → at ≤ k → k < later → IfSome (aligned_number_at bytes k) (λ word. word ≡ 0)

-- each word of a segment is at a multiple of 8 of the file
abbrev pub AreAligned : List Segment → Type 0
AreAligned segments = (k : ℕ) (d : Segment) → k < length segments → 0 < (slice_index_or segments k d).filesz → (slice_index_or segments k d).offset % 8 ≡ (slice_index_or segments k d).vaddr % 8

-- the bytes have the file header, the table of program headers and, if it is used, section header 0
pub record HasTable (held : List ℕ) : Type 0 where
  pub file_header : 64 ≤ length held
  pub section_header : is_extended held ≡ true → lacks_section_header held ≡ false
  pub program_headers : e_phoff held + 56 * header_count held ≤ length held

-- the bytes have all that is read of a file but words
pub record IsHead (held : List ℕ) : Type 0 where
  pub table : HasTable held
  pub multiple : length held % 8 ≡ 0
  pub notes : AreParts held (note_parts_of held)
  pub words : AreAligned (segments_of held)

-- segments of a file whose first bytes are held: none of its words lies across their end
pub record AreSplit (held rest : List ℕ) (segments : List Segment) : Type 0 where
  pub of_file : AreSegments (held ++ rest) segments
  pub size : length (held ++ rest) < 2 ^ 64
  pub words : (rest ≡ []) ⊎ ((length held % 8 ≡ 0) × AreAligned segments)
