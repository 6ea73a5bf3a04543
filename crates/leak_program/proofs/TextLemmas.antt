-- No text of an error has a control character.
use Rattle.std.proofs.Common.{List, ℕ, ◌++◌, codes, decimal, refl}
use Rattle.leak_elf.specs.declared.error.ElfError.{ElfError}
use Rattle.leak_elf.specs.declared.error.ElfError.TheVariants as elf
use Rattle.leak_notes.specs.declared.error.NoteError.{NoteError}
use Rattle.leak_notes.specs.declared.error.NoteError.TheVariants as note
use Rattle.leak_mtrace.specs.declared.error.LogError.{LogError}
use Rattle.leak_mtrace.specs.declared.error.LogError.TheVariants as log
use Rattle.leak_search.specs.declared.error.FindError.{FindError}
use Rattle.leak_search.specs.declared.error.FindError.TheVariants as find
use Rattle.leak_streams.specs.declared.fault.ReadFault.{ReadFault}
use Rattle.leak_streams.specs.declared.fault.ReadFault.TheVariants as read
use Rattle.leak_streams.specs.declared.fault.WriteFault.{WriteFault}
use Rattle.leak_index.specs.declared.error.ReadingError.{ReadingError}
use Rattle.leak_index.specs.declared.error.ReadingError.TheVariants as reading
use Rattle.leak_request.specs.declared.fault.DisplaceFault.{DisplaceFault}
use Rattle.leak_request.specs.declared.fault.DisplaceFault.TheVariants as list
use Rattle.leak_program.specs.declared.open_fault.Reason.{Reason}
use Rattle.leak_program.specs.declared.open_fault.Reason.TheVariants as reason
use Rattle.leak_program.specs.InputTexts.{core_text, find_text, input_text, log_text, notes_text, read_text, reason_text, write_text}
use Rattle.leak_program.specs.WordTexts.{displace_text, reading_text}
use Rattle.leak_request.specs.Escaped.{AreShown}
use Rattle.leak_request.proofs.ShownLemmas.{both, decimal_shown}

-- a number between two texts
pub numbered : (before after : List ℕ) (n : ℕ) → AreShown before → AreShown after → AreShown (before ++ (decimal n ++ after))
numbered before after n first second = both before (decimal n ++ after) first (both (decimal n) after (decimal_shown n) second)

core_shown : (e : ElfError) → AreShown (core_text e)
core_shown elf.Short = refl
core_shown elf.Magic = refl
core_shown elf.Class = refl
core_shown elf.Data = refl
core_shown elf.Version = refl
core_shown elf.Kind = refl
core_shown elf.Machine = refl
core_shown elf.EntrySize = refl
core_shown elf.Extended = refl
core_shown elf.TableCut = refl
core_shown (elf.Truncated header) = numbered (codes "header ") (codes ": " ++ codes "contents are cut off") header refl refl
core_shown (elf.SizeOrder header) = numbered (codes "header ") (codes ": " ++ codes "file size is larger than memory size") header refl refl
core_shown (elf.Wrap header) = numbered (codes "header ") (codes ": " ++ codes "addresses wrap") header refl refl
core_shown (elf.Overlap header) = numbered (codes "header ") (codes ": " ++ codes "overlaps an earlier segment") header refl refl
core_shown elf.NoMemory = refl

notes_shown : (e : NoteError) → AreShown (notes_text e)
notes_shown (note.Cut at) = numbered (codes "note at ") (codes " is cut off") at refl refl
notes_shown (note.StatusSize at) = numbered (codes "thread status at ") (codes " has a wrong size") at refl refl
notes_shown (note.VectorSize at) = numbered (codes "vector registers at ") (codes " have a wrong size") at refl refl
notes_shown note.NoThread = refl
notes_shown note.NoMemory = refl

log_shown : (e : LogError) → AreShown (log_text e)
log_shown (log.BadLine line) = numbered (codes "line ") (codes " is not an mtrace line") line refl refl
log_shown (log.Extent line) = numbered (codes "line ") (codes ": block ends past the address space") line refl refl
log_shown log.NoMemory = refl

-- what is wrong with a part of an input
part_shown : (input : ℕ) (part text : List ℕ) → AreShown part → AreShown text → AreShown (input_text input part text)
part_shown input part text first second =
    numbered (codes "input ") (codes ": " ++ (part ++ (codes ": " ++ text))) input refl
    (both (codes ": ") (part ++ (codes ": " ++ text)) refl (both part (codes ": " ++ text) first (both (codes ": ") text refl second)))

pub find_shown : (e : FindError) → AreShown (find_text e)
find_shown (find.Core input e) = part_shown input (codes "core") (core_text e) refl (core_shown e)
find_shown (find.Notes input e) = part_shown input (codes "notes") (notes_text e) refl (notes_shown e)
find_shown (find.Log input e) = part_shown input (codes "log") (log_text e) refl (log_shown e)
find_shown find.NotPrefix = refl
find_shown find.TooMany = refl
find_shown find.NoMemory = refl

pub read_shown : (f : ReadFault) → AreShown (read_text f)
read_shown read.TooLong = refl
read_shown read.Device = refl
read_shown read.TooManyTurns = refl
read_shown read.NoMemory = refl

pub write_shown : (f : WriteFault) → AreShown (write_text f)
write_shown f = numbered (codes "write failed after ") (codes " bytes") f.written refl refl

pub reason_shown : (r : Reason) → AreShown (reason_text r)
reason_shown reason.Missing = refl
reason_shown reason.Denied = refl
reason_shown reason.Folder = refl
reason_shown reason.NotFolder = refl
reason_shown reason.Name = refl
reason_shown reason.Links = refl
reason_shown reason.Other = refl

reading_shown : (e : ReadingError) → AreShown (reading_text e)
reading_shown reading.TooMany = refl
reading_shown (reading.TooLarge item) = numbered (codes "item ") (codes " is over 65535") item refl refl

pub displace_shown : (f : DisplaceFault) → AreShown (displace_text f)
displace_shown (list.Number item) = numbered (codes "--displace: item ") (codes " is not a number") item refl refl
displace_shown (list.Reading e) = both (codes "--displace: ") (reading_text e) refl (reading_shown e)
