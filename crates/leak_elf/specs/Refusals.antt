-- Which files are accepted as cores, and the first reason against the others (System V gABI, elf(5)).
use Rattle.std.specs.Prelude.{◌≡◌, ◌<◌, true, false, ℕ, ◌+◌, ◌-◌, ◌*◌, ◌^◌, Bool, not, ◌&&◌, ◌||◌, List, [], ◌∷◌, ◌++◌, length, take, nat_lt, ◌==◌, if◌then◌else◌, Option, Some, None, bytes_eq, slice_index}
use Rattle.std.specs.Option.{option_or}
use Rattle.std.specs.List.{list_any}
use Rattle.leak_elf.specs.declared.error.ElfError.{ElfError}
use Rattle.leak_elf.specs.declared.error.ElfError.TheVariants.{Short, Magic, Class, Data, Version, Kind, Machine, EntrySize, Extended, TableCut, Truncated, SizeOrder, Wrap, Overlap}
use Rattle.leak_elf.specs.declared.header.Header.{Header}
use Rattle.leak_elf.specs.Fields.{e_type, e_machine, e_phoff, e_phentsize}
use Rattle.leak_elf.specs.Segments.{meet_within}
use Rattle.leak_elf.specs.Headers.{is_extended, lacks_section_header, header_count, headers, is_load, is_note, share_address}

-- the fault of the first condition that holds
abbrev pub first_fault : {E : Type 0} → List (Bool × E) → Option E
first_fault [] = None
first_fault (c ∷ cs) = if c.0 then Some c.1 else first_fault cs

-- the faults of the file header, in order
abbrev pub file_faults : List ℕ → List (Bool × ElfError)
file_faults file =
    (nat_lt (length file) 64, Short)
    ∷ (not (bytes_eq (take 4 file) (0x7f ∷ 0x45 ∷ 0x4c ∷ 0x46 ∷ [])), Magic)
    ∷ (not (slice_index file 4 == 2), Class)
    ∷ (not (slice_index file 5 == 1), Data)
    ∷ (not (slice_index file 6 == 1), Version)
    ∷ (not (e_type file == 4), Kind)
    ∷ (not (e_machine file == 62), Machine)
    ∷ (not (e_phentsize file == 56), EntrySize)
    ∷ (is_extended file && lacks_section_header file, Extended)
    ∷ (nat_lt (length file) (e_phoff file + 56 * header_count file), TableCut)
    ∷ []

-- the faults of the program header with the number by itself, in order
abbrev pub extent_faults : List ℕ → ℕ → Header → List (Bool × ElfError)
extent_faults file i h =
    ((is_load h || is_note h) && nat_lt 0 h.filesz && nat_lt (length file) (h.offset + h.filesz), Truncated i)
    ∷ (is_load h && nat_lt h.memsz h.filesz, SizeOrder i)
    ∷ (is_load h && nat_lt (2 ^ 64 - 1) (h.vaddr + h.memsz), Wrap i)
    ∷ []

-- the header's segment has an address in common with one of the earlier headers
abbrev pub overlaps : List Header → Header → Bool
overlaps earlier h = is_load h && list_any (λ g. is_load g && share_address g h) earlier

-- the faults of the program header with the number, after the earlier ones, in order
abbrev pub header_faults : List ℕ → List Header → ℕ → Header → List (Bool × ElfError)
header_faults file earlier i h = extent_faults file i h ++ (overlaps earlier h, Overlap i) ∷ []

-- the first of those of the header by itself
unfoldable pub extent_fault : List ℕ → ℕ → Header → Option ElfError
extent_fault file i h = first_fault (extent_faults file i h)

-- the first of those faults
unfoldable pub header_fault : List ℕ → List Header → ℕ → Header → Option ElfError
header_fault file earlier i h = first_fault (header_faults file earlier i h)

unfoldable pub file_fault : List ℕ → Option ElfError
file_fault file = first_fault (file_faults file)

-- the first fault of the headers from the number on
abbrev pub faults_from : List ℕ → List Header → ℕ → List Header → Option ElfError
faults_from file before i [] = None
faults_from file before i (h ∷ hs) = option_or (header_fault file before i h) (faults_from file (before ++ h ∷ []) (i + 1) hs)

-- why the file is refused, if it is
unfoldable pub fault_of : List ℕ → Option ElfError
fault_of file = option_or (file_fault file) (faults_from file [] 0 (headers file))

-- the overlap of the first of this many headers that has an address in common with an earlier one
pub record IsMeetingBefore (hs : List Header) (count : ℕ) (e : ElfError) : Type 0 where
  pub at : ℕ
  pub is : e ≡ Overlap at
  pub before : at < count
  pub apart : meet_within hs at ≡ false
  pub meets : meet_within hs (at + 1) ≡ true
