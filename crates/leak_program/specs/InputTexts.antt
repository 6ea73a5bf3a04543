-- The texts of what refuses a core, its notes or a log, and of readers and writers. Own rule. Numbers are decimal.
use Rattle.std.specs.Prelude.{ℕ, List, [], ◌++◌, codes, decimal}
use Rattle.leak_elf.specs.declared.error.ElfError.{ElfError}
use Rattle.leak_elf.specs.declared.error.ElfError.TheVariants as elf
use Rattle.leak_notes.specs.declared.error.NoteError.{NoteError}
use Rattle.leak_notes.specs.declared.error.NoteError.TheVariants as note
use Rattle.leak_mtrace.specs.declared.error.LogError.{LogError}
use Rattle.leak_mtrace.specs.declared.error.LogError.TheVariants as log
use Rattle.leak_search.specs.declared.error.FindError.{FindError}
use Rattle.leak_search.specs.declared.error.FindError.TheVariants as find
use Rattle.leak_streams.specs.declared.fault.ReadFault.{ReadFault}
use Rattle.leak_streams.specs.declared.fault.ReadFault.TheVariants as read
use Rattle.leak_streams.specs.declared.fault.WriteFault.{WriteFault}
use Rattle.leak_program.specs.declared.open_fault.Reason.{Reason}
use Rattle.leak_program.specs.declared.open_fault.Reason.TheVariants as reason

-- a program header with its number, and what is wrong with it
abbrev pub header_text : ℕ → List ℕ → List ℕ
header_text header text = codes "header " ++ (decimal header ++ (codes ": " ++ text))

abbrev pub core_text : ElfError → List ℕ
core_text elf.Short = codes "shorter than an ELF header"
core_text elf.Magic = codes "not an ELF file"
core_text elf.Class = codes "not a 64-bit file"
core_text elf.Data = codes "not little-endian"
core_text elf.Version = codes "unknown ELF version"
core_text elf.Kind = codes "not a core file"
core_text elf.Machine = codes "not an x86-64 core"
core_text elf.EntrySize = codes "program header size is not 56"
core_text elf.Extended = codes "section header 0 is missing or cut off"
core_text elf.TableCut = codes "program headers are cut off"
core_text (elf.Truncated header) = header_text header (codes "contents are cut off")
core_text (elf.SizeOrder header) = header_text header (codes "file size is larger than memory size")
core_text (elf.Wrap header) = header_text header (codes "addresses wrap")
core_text (elf.Overlap header) = header_text header (codes "overlaps an earlier segment")
core_text elf.NoMemory = codes "out of memory"

abbrev pub notes_text : NoteError → List ℕ
notes_text (note.Cut at) = codes "note at " ++ (decimal at ++ codes " is cut off")
notes_text (note.StatusSize at) = codes "thread status at " ++ (decimal at ++ codes " has a wrong size")
notes_text (note.VectorSize at) = codes "vector registers at " ++ (decimal at ++ codes " have a wrong size")
notes_text note.NoThread = codes "no thread status"
notes_text note.NoMemory = codes "out of memory"

abbrev pub log_text : LogError → List ℕ
log_text (log.BadLine line) = codes "line " ++ (decimal line ++ codes " is not an mtrace line")
log_text (log.Extent line) = codes "line " ++ (decimal line ++ codes ": block ends past the address space")
log_text log.NoMemory = codes "out of memory"

-- an input with its number, which of its parts is at fault, and how
abbrev pub input_text : ℕ → List ℕ → List ℕ → List ℕ
input_text input part text = codes "input " ++ (decimal input ++ (codes ": " ++ (part ++ (codes ": " ++ text))))

abbrev pub find_text : FindError → List ℕ
find_text (find.Core input e) = input_text input (codes "core") (core_text e)
find_text (find.Notes input e) = input_text input (codes "notes") (notes_text e)
find_text (find.Log input e) = input_text input (codes "log") (log_text e)
find_text find.NotPrefix = codes "log 1 is not a prefix of log 2"
find_text find.TooMany = codes "too many blocks"
find_text find.NoMemory = codes "out of memory"

abbrev pub read_text : ReadFault → List ℕ
read_text read.TooLong = codes "too long"
read_text read.Device = codes "read failed"
read_text read.TooManyTurns = codes "too many interrupted reads"
read_text read.NoMemory = codes "out of memory"

abbrev pub write_text : WriteFault → List ℕ
write_text f = codes "write failed after " ++ (decimal f.written ++ codes " bytes")

-- what follows the path of a file that can't be opened: nothing if the reason has no name
abbrev pub reason_text : Reason → List ℕ
reason_text reason.Missing = codes ": no such file"
reason_text reason.Denied = codes ": permission denied"
reason_text reason.Folder = codes ": is a folder"
reason_text reason.NotFolder = codes ": a part of the path is not a folder"
reason_text reason.Name = codes ": the name is too long"
reason_text reason.Links = codes ": too many symbolic links"
reason_text reason.Other = []
