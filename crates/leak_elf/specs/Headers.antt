-- Program headers (System V gABI, elf(5)).
use Rattle.std.specs.Prelude.{ℕ, not, bit_and, max, min, nat_lt, ◌&&◌, ◌||◌, ◌+◌, ◌*◌, List, length, Bool, map, ◌==◌, if◌then◌else◌, Option, Some, None}
use Rattle.std.specs.List.{range_with_len}
use Rattle.std.specs.Int.{w32, w64}
use Rattle.leak_elf.specs.declared.header.Header.{Header}
use Rattle.leak_elf.specs.Fields.{number_at, e_phoff, e_shoff, e_phnum, sh_info}

-- a program header; its address in physical memory and its alignment are not read
unfoldable pub header_at : List ℕ → ℕ → Header
header_at file at = record {
  kind = number_at w32 file at;
  flags = number_at w32 file (at + 4);
  offset = number_at w64 file (at + 8);
  vaddr = number_at w64 file (at + 16);
  filesz = number_at w64 file (at + 32);
  memsz = number_at w64 file (at + 40);
}

-- this many headers one after another, from the offset on
abbrev pub table_at : List ℕ → ℕ → ℕ → List Header
table_at file start n = map (λ i. header_at file (start + 56 * i)) (range_with_len 0 n)

-- extended numbering (PN_XNUM): the number of program headers is in section header 0
abbrev pub is_extended : List ℕ → Bool
is_extended file = e_phnum file == 0xffff

-- section header 0, of 64 bytes, is not in the file; if e_shoff is 0 there is none
abbrev pub lacks_section_header : List ℕ → Bool
lacks_section_header file = e_shoff file == 0 || nat_lt (length file) (e_shoff file + 64)

-- how many program headers there are
abbrev pub header_count : List ℕ → ℕ
header_count file = if is_extended file then sh_info file else e_phnum file

-- that number, if the file has it
abbrev pub found_count : List ℕ → Option ℕ
found_count file = if is_extended file && lacks_section_header file then None else Some (header_count file)

-- the program headers, in the order of the file
unfoldable pub headers : List ℕ → List Header
headers file = table_at file (e_phoff file) (header_count file)

-- PT_LOAD, PT_NOTE, PF_W
abbrev pub is_load : Header → Bool
is_load h = h.kind == 1

abbrev pub is_note : Header → Bool
is_note h = h.kind == 4

abbrev pub is_writable : Header → Bool
is_writable h = not (bit_and h.flags 2 == 0)

-- a segment with addresses
abbrev pub has_addresses : Header → Bool
has_addresses h = is_load h && nat_lt 0 h.memsz

-- two headers have an address in common in their memory
abbrev pub share_address : Header → Header → Bool
share_address g h = nat_lt (max g.vaddr h.vaddr) (min (g.vaddr + g.memsz) (h.vaddr + h.memsz))
