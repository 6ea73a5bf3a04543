-- Values of the sample core, each changed in one way: its refusal, its parts and its words.
use Rattle.std.specs.Prelude.{◌≡◌, ℕ, ◌+◌, List, [], ◌∷◌, length, take, Some, None}
use Rattle.std.specs.Int.{w16, w32, w64, to_le_bytes}
use Rattle.leak_elf.specs.declared.error.ElfError.TheVariants.{Short, Magic, Class, Data, Version, Kind, Machine, EntrySize, Extended, TableCut, Truncated, SizeOrder, Wrap, Overlap}
use Rattle.leak_elf.specs.Refusals.{fault_of}
use Rattle.leak_elf.specs.Segments.{segments_of, note_parts_of, undumped_of}
use Rattle.leak_elf.specs.Words.{word_of}
use Rattle.leak_elf.specs.Sample.{sample, sample_with, patched, sample_of_three, program_header}

-- the file with section header 0 at the offset, and the number there
abbrev pub with_section : List ℕ → ℕ → ℕ → List ℕ
with_section file e_shoff sh_info = patched (patched file 40 (to_le_bytes w64 e_shoff)) (e_shoff + 44) (to_le_bytes w32 sh_info)

-- the sample, with its number of program headers there
abbrev pub extended : ℕ → ℕ → List ℕ
extended e_shoff sh_info = with_section (patched sample 56 (to_le_bytes w16 0xffff)) e_shoff sh_info

pub record AreValues : Type 0 where
  pub accepted : fault_of sample ≡ None
  pub short : fault_of (take 63 sample) ≡ Some Short
  pub magic : fault_of (patched sample 0 (0 ∷ [])) ≡ Some Magic
  pub class : fault_of (patched sample 4 (1 ∷ [])) ≡ Some Class
  pub order_of_bytes : fault_of (patched sample 5 (2 ∷ [])) ≡ Some Data
  pub version : fault_of (patched sample 6 (0 ∷ [])) ≡ Some Version
  pub kind : fault_of (patched sample 16 (2 ∷ [])) ≡ Some Kind
  pub machine : fault_of (patched sample 18 (3 ∷ [])) ≡ Some Machine
  pub entry_size : fault_of (patched sample 54 (32 ∷ [])) ≡ Some EntrySize
  pub no_section : fault_of (patched sample 56 (to_le_bytes w16 0xffff)) ≡ Some Extended
  pub section : fault_of (extended 600 2) ≡ None
  pub section_segments : segments_of (extended 600 2) ≡ segments_of sample
  pub section_parts : note_parts_of (extended 600 2) ≡ note_parts_of sample
  pub cut_section : fault_of (patched (patched sample 56 (to_le_bytes w16 0xffff)) 40 (to_le_bytes w64 8129)) ≡ Some Extended
  pub last_section : fault_of (extended 8128 0) ≡ None
  pub last_section_segments : segments_of (extended 8128 0) ≡ []
  pub last_section_parts : note_parts_of (extended 8128 0) ≡ []
  pub section_past_all : fault_of (patched (patched sample 56 (to_le_bytes w16 0xffff)) 40 (to_le_bytes w64 0xffffffffffffffc0)) ≡ Some Extended
  pub section_cut_table : fault_of (extended 600 200) ≡ Some TableCut
  pub section_of_all : fault_of (extended 600 0xffffffff) ≡ Some TableCut
  pub plain_section : fault_of (with_section sample 600 1) ≡ None
  pub plain_section_segments : segments_of (with_section sample 600 1) ≡ segments_of sample
  pub plain_section_parts : note_parts_of (with_section sample 600 1) ≡ note_parts_of sample
  pub cut_table : fault_of (patched sample 56 (200 ∷ [])) ≡ Some TableCut
  pub cut : fault_of (take 8191 sample) ≡ Some (Truncated 1)
  pub cut_notes : fault_of (patched sample 72 (to_le_bytes w64 8000)) ≡ Some (Truncated 0)
  pub sizes : fault_of (patched sample 160 (to_le_bytes w64 0x800)) ≡ Some (SizeOrder 1)
  pub wrap : fault_of (patched sample 136 (to_le_bytes w64 0xfffffffffffff000)) ≡ Some (Wrap 1)
  pub high : fault_of (patched sample 136 (to_le_bytes w64 0xffffffffffffe000)) ≡ None
  pub overlap : fault_of (sample_of_three (program_header 1 6 0 0x10800 0 0x1000 4096)) ≡ Some (Overlap 2)
  pub behind : fault_of (sample_of_three (program_header 1 6 1000000 0x11000 0 0x1000 4096)) ≡ None
  pub behind_undumped : undumped_of (sample_of_three (program_header 1 6 1000000 0x11000 0 0x1000 4096)) ≡ 4096
  pub nothing : fault_of (sample_of_three (program_header 1 6 0 0x10000 0 0 4096)) ≡ None
  pub nothing_dropped : length (segments_of (sample_of_three (program_header 1 6 0 0x10000 0 0 4096))) ≡ 1
  pub two_faults : fault_of (patched sample 4 (1 ∷ 2 ∷ [])) ≡ Some Class
  pub other_type : fault_of (patched sample 120 (to_le_bytes w32 0x6474e551)) ≡ None
  pub no_segment : segments_of (patched sample 120 (to_le_bytes w32 0x6474e551)) ≡ []
  pub no_header : fault_of (patched sample 56 (0 ∷ 0 ∷ [])) ≡ None
  pub no_part : note_parts_of (patched sample 56 (0 ∷ 0 ∷ [])) ≡ []
  pub last : word_of sample 0x10ff8 ≡ Some 0
  pub past : word_of sample 0x11000 ≡ None
  pub before : word_of sample 0xfff8 ≡ None
  pub unaligned : word_of sample 0x10004 ≡ None
  pub set : word_of (patched sample 0x1008 (to_le_bytes w64 0x10100)) 0x10008 ≡ Some 0x10100
  pub dumped : word_of (patched sample 152 (to_le_bytes w64 0x7fc)) 0x107f0 ≡ Some 0
  pub not_dumped : word_of (patched sample 152 (to_le_bytes w64 0x7fc)) 0x107f8 ≡ None
  pub undumped : undumped_of (patched sample 152 (to_le_bytes w64 0x7fc)) ≡ 2052
  pub later_word : word_of (sample_with ((0x10008, 0x10100) ∷ (0x10008, 7) ∷ [])) 0x10008 ≡ Some 7
