-- Numbers in the file, all little-endian, and the fields of the file header (System V gABI, elf(5)).
use Rattle.std.specs.Prelude.{ℕ, ◌+◌, List, slice_range}
use Rattle.std.specs.Int.{Width, w16, w32, w64, byte_len, from_le_bytes}

-- the number of the width at the offset
unfoldable pub number_at : Width → List ℕ → ℕ → ℕ
number_at w file offset = from_le_bytes w (slice_range file offset (offset + byte_len w))

-- e_type, e_machine, e_phoff, e_shoff, e_phentsize, e_phnum
abbrev pub e_type : List ℕ → ℕ
e_type file = number_at w16 file 16

abbrev pub e_machine : List ℕ → ℕ
e_machine file = number_at w16 file 18

abbrev pub e_phoff : List ℕ → ℕ
e_phoff file = number_at w64 file 32

abbrev pub e_shoff : List ℕ → ℕ
e_shoff file = number_at w64 file 40

abbrev pub e_phentsize : List ℕ → ℕ
e_phentsize file = number_at w16 file 54

abbrev pub e_phnum : List ℕ → ℕ
e_phnum file = number_at w16 file 56

-- sh_info of section header 0, which is at e_shoff
abbrev pub sh_info : List ℕ → ℕ
sh_info file = number_at w32 file (e_shoff file + 44)
