-- The note entries of a part (elf(5), Linux cores): three numbers of 32 bits, then the name and the descriptor,
-- each padded to a multiple of 4 bytes counted from its own start. Which of them have register words, and which words.
use Rattle.std.specs.Prelude.{ℕ, zero, suc, ◌+◌, ◌-◌, ◌*◌, ◌/◌, min, Bool, not, ◌&&◌, ◌||◌, List, [], ◌∷◌, length, drop, map, ◌==◌, nat_lt, if◌then◌else◌, bytes_eq, slice_range}
use Rattle.std.specs.Int.{w32, w64}
use Rattle.std.specs.List.{range_with_len}
use Rattle.leak_elf.specs.Fields.{number_at}

-- an entry: the offset of its first byte in the file, and the bytes of its part from there on
pub record Entry : Type 0 where
  pub offset : ℕ
  pub bytes : List ℕ

-- namesz, descsz and type
abbrev pub name_size : Entry → ℕ
name_size e = number_at w32 e.bytes 0

abbrev pub desc_size : Entry → ℕ
desc_size e = number_at w32 e.bytes 4

abbrev pub kind : Entry → ℕ
kind e = number_at w32 e.bytes 8

abbrev pub padded : ℕ → ℕ
padded n = (n + 3) / 4 * 4

abbrev pub name : Entry → List ℕ
name e = slice_range e.bytes 12 (12 + name_size e)

-- where the descriptor begins, counted from the entry's first byte: the name's padding is there
abbrev pub desc_at : Entry → ℕ
desc_at e = 12 + padded (name_size e)

abbrev pub desc : Entry → List ℕ
desc e = slice_range e.bytes (desc_at e) (desc_at e + desc_size e)

-- the bytes of the entry, with what the part has of the descriptor's padding
abbrev pub entry_size : Entry → ℕ
entry_size e = min (desc_at e + padded (desc_size e)) (length e.bytes)

-- what follows it in the part
abbrev pub following : Entry → Entry
following e = record { offset = e.offset + entry_size e; bytes = drop (entry_size e) e.bytes }

-- the fields, the padded name or the descriptor pass the part's end
abbrev pub is_cut : Entry → Bool
is_cut e = nat_lt (length e.bytes) 12 || nat_lt (length e.bytes) (desc_at e + desc_size e)

-- the name of Linux's first register sets: `CORE` with a zero byte after it
abbrev pub is_core : Entry → Bool
is_core e = bytes_eq (name e) (0x43 ∷ 0x4f ∷ 0x52 ∷ 0x45 ∷ 0 ∷ [])

-- a thread status: type NT_PRSTATUS
abbrev pub is_status : Entry → Bool
is_status e = (kind e == 1) && is_core e

-- the name of register sets that Linux added later: `LINUX` with a zero byte after it
abbrev pub is_linux : Entry → Bool
is_linux e = bytes_eq (name e) (0x4c ∷ 0x49 ∷ 0x4e ∷ 0x55 ∷ 0x58 ∷ 0 ∷ [])

-- a vector entry: type NT_FPREGSET
abbrev pub is_vector : Entry → Bool
is_vector e = (kind e == 2) && is_core e

-- a state entry: type NT_X86_XSTATE
abbrev pub is_state : Entry → Bool
is_state e = (kind e == 0x202) && is_linux e

-- Linux's struct elf_prstatus has 336 bytes
abbrev pub has_other_status_size : Entry → Bool
has_other_status_size e = is_status e && not (desc_size e == 336)

-- the FXSAVE area has 512 bytes (Intel SDM)
abbrev pub has_other_vector_size : Entry → Bool
has_other_vector_size e = is_vector e && not (desc_size e == 512)

-- this many words of 8 bytes, from the byte on
abbrev pub words_from : List ℕ → ℕ → ℕ → List ℕ
words_from bytes at count = map (λ i. number_at w64 bytes (at + 8 * i)) (range_with_len 0 count)

-- pr_reg of Linux's struct elf_prstatus: 27 words, from byte 112 on
abbrev pub words_of_status : List ℕ → List ℕ
words_of_status status = words_from status 112 27

-- the registers in the FXSAVE area (Intel SDM): the eight of x87 and MMX from byte 32 on and then xmm0 to xmm15, 16 bytes each,
-- the lower half first
abbrev pub words_of_vector : List ℕ → List ℕ
words_of_vector vector = words_from vector 32 48

-- how many complete words of 8 bytes a state entry of that size has, from byte 576 on
abbrev pub state_words : ℕ → ℕ
state_words size = (size - 576) / 8

-- the XSAVE area in its standard form (Intel SDM volume 1, chapter 13) after its header, which ends at byte 576: the upper halves
-- of ymm0 to ymm15, then whatever else the processor has. Below 512 it repeats the FXSAVE area
abbrev pub words_of_state : List ℕ → List ℕ
words_of_state state = words_from state 576 (state_words (length state))

-- the register words of an entry
abbrev pub words_of_entry : Entry → List ℕ
words_of_entry e =
    if is_status e then words_of_status (desc e)
    else (if is_vector e then words_of_vector (desc e) else (if is_state e then words_of_state (desc e) else []))

-- The entries from one on, up to the part's end or to an entry that is cut off, which is the last. An entry that
-- is not cut off has at least 12 bytes, so there are no more entries than bytes: `most` need not be larger.
abbrev pub cutting : ℕ → Entry → List Entry
cutting zero e = []
cutting (suc most) e = if length e.bytes == 0 then [] else e ∷ (if is_cut e then [] else cutting most (following e))

-- the entries of a part
unfoldable pub entries_from : Entry → List Entry
entries_from e = cutting (length e.bytes) e
