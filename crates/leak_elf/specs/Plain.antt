-- Refusals and words once more, over the program headers alone: each header is compared with those before it in the
-- file, and a word is looked for in the headers as they are (System V gABI, elf(5)).
use Rattle.std.specs.Prelude.{◌≡◌, ℕ, ◌+◌, ◌-◌, ◌%◌, Bool, ◌&&◌, List, ◌++◌, take, find, ◌==◌, if◌then◌else◌, Option, None, option_map}
use Rattle.std.specs.Int.{w64}
use Rattle.std.specs.List.{flat_map, enumerate_from}
use Rattle.leak_elf.specs.declared.error.ElfError.{ElfError}
use Rattle.leak_elf.specs.declared.header.Header.{Header}
use Rattle.leak_elf.specs.Fields.{number_at}
use Rattle.leak_elf.specs.Headers.{headers, is_load}
use Rattle.leak_elf.specs.Refusals.{first_fault, file_faults, header_faults, fault_of}
use Rattle.leak_elf.specs.Segments.{segment_of}
use Rattle.leak_elf.specs.Words.{holds_word, word_of}

-- the first of all faults: of the file header, then of each program header against those before it
unfoldable pub plain_fault_of : List ℕ → Option ElfError
plain_fault_of file = first_fault (file_faults file ++ flat_map (λ h. header_faults file (take h.0 (headers file)) h.0 h.1) (enumerate_from 0 (headers file)))

-- the 8 bytes from the address on lie in the dumped part of the header's segment
abbrev pub header_holds : ℕ → Header → Bool
header_holds a h = is_load h && holds_word a (segment_of h)

-- the word at an address that is a multiple of 8, if one PT_LOAD header holds its bytes
unfoldable pub plain_word_of : List ℕ → ℕ → Option ℕ
plain_word_of file a =
    if a % 8 == 0 then option_map (λ h. number_at w64 file (h.offset + (a - h.vaddr))) (find (header_holds a) (headers file))
    else None

-- the reason against any file is the plain one
abbrev pub FaultsArePlain : Type 0
FaultsArePlain = (file : List ℕ) → fault_of file ≡ plain_fault_of file

-- the words of an accepted file are the plain ones
abbrev pub WordsArePlain : Type 0
WordsArePlain = (file : List ℕ) → fault_of file ≡ None → (a : ℕ) → word_of file a ≡ plain_word_of file a
