-- The register words of a core, of its thread statuses (Linux's struct elf_prstatus), its vector entries (Linux's
-- NT_FPREGSET) and its state entries (Linux's NT_X86_XSTATE), and the first reason against its notes.
use Rattle.std.specs.Prelude.{◌≡◌, ℕ, Bool, ◌+◌, List, [], ◌∷◌, ◌++◌, length, filter, ◌==◌, Option, None, flat_map}
use Rattle.leak_elf.specs.declared.segment.NotePart.{NotePart}
use Rattle.leak_elf.specs.Refusals.{first_fault}
use Rattle.leak_elf.specs.Segments.{note_parts_of, bytes_at}
use Rattle.leak_notes.specs.declared.error.NoteError.{NoteError}
use Rattle.leak_notes.specs.declared.error.NoteError.TheVariants.{Cut, StatusSize, VectorSize, NoThread}
use Rattle.leak_notes.specs.Entry.{Entry, entries_from, is_cut, is_status, has_other_status_size, has_other_vector_size, words_of_entry}

-- what contracts see of a core's threads: their register words, vector registers among them, and how many threads there are
pub record Registers : Type 0 where
  pub registers : List ℕ
  pub threads : ℕ

-- the first entry of a part
abbrev pub first_entry : List ℕ → NotePart → Entry
first_entry file part = record { offset = part.offset; bytes = bytes_at file part.offset part.filesz }

-- the entries of parts, one part after another
abbrev pub entries_of_parts : List ℕ → List NotePart → List Entry
entries_of_parts file parts = flat_map (λ part. entries_from (first_entry file part)) parts

-- the entries of a core, over its parts in the order of the headers
abbrev pub entries : List ℕ → List Entry
entries file = entries_of_parts file (note_parts_of file)

-- the register words of the thread statuses, vector entries and state entries among entries, in the order of the entries
abbrev pub words_of_entries : List Entry → List ℕ
words_of_entries es = flat_map words_of_entry es

-- how many thread statuses there are among entries
abbrev pub count_statuses : List Entry → ℕ
count_statuses es = length (filter is_status es)

-- the faults of an entry, in order
abbrev pub entry_faults : Entry → List (Bool × NoteError)
entry_faults e =
    (is_cut e, Cut e.offset) ∷ (has_other_status_size e, StatusSize e.offset) ∷ (has_other_vector_size e, VectorSize e.offset) ∷ []

-- the first fault of entries
abbrev pub first_fault_among : List Entry → Option NoteError
first_fault_among es = first_fault (flat_map entry_faults es)

-- the entries have no fault; they are taken after those that gave the old registers
pub record TakesUp (old new : Registers) (es : List Entry) : Type 0 where
  pub words : new.registers ≡ old.registers ++ words_of_entries es
  pub count : new.threads ≡ old.threads + count_statuses es
  pub faultless : first_fault_among es ≡ None

-- why the notes are refused, if they are: a fault of an entry, or that there is no thread status
unfoldable pub note_fault_of : List ℕ → Option NoteError
note_fault_of file = first_fault (flat_map entry_faults (entries file) ++ (count_statuses (entries file) == 0, NoThread) ∷ [])

unfoldable pub registers_of : List ℕ → List ℕ
registers_of file = words_of_entries (entries file)

unfoldable pub threads_of : List ℕ → Registers
threads_of file = record { registers = registers_of file; threads = count_statuses (entries file) }
