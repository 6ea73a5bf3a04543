-- What is read of a file but words is read of its head, and of how long the file is.
use Rattle.std.proofs.Common.{◌≡◌, ℕ, suc, ◌+◌, List, [], ◌∷◌, ◌++◌, length, filter_map, flat_map, Option, inr, refl, sym, ap, ap₂, ◌∙◌, length-append, arith}
use Rattle.std.specs.Prelude.{◌==◌}
use Rattle.std.specs.Option.{option_or}
use Rattle.leak_elf.specs.declared.error.ElfError.{ElfError}
use Rattle.leak_elf.specs.declared.header.Header.{Header}
use Rattle.leak_elf.specs.declared.segment.NotePart.{NotePart}
use Rattle.leak_elf.specs.Head.{IsHead}
use Rattle.leak_elf.specs.Headers.{headers}
use Rattle.leak_elf.specs.Refusals.{fault_of, faults_from, first_fault, header_fault}
use Rattle.leak_elf.specs.Segments.{AreParts, note_parts_of}
use Rattle.leak_elf.proofs.Heads.{bytes_front, same_fault, same_headers, same_parts, same_segments}
use Rattle.leak_notes.specs.Entry.{Entry, entries_from}
use Rattle.leak_notes.specs.Stacks.{first_said, random_of, random_of_entry, stack_registers_of, threads_in}
use Rattle.leak_notes.specs.Threads.{Registers, count_statuses, entries, entries_of_parts, entry_faults, note_fault_of, registers_of, threads_of, words_of_entries}
use Rattle.leak_notes.specs.declared.error.NoteError.TheVariants.{NoThread}
use Rattle.leak_alike.specs.OneHead.{AgreeButWords}

-- ---- faults of program headers go by the file's length

header_alike : (f g : List ℕ) → length f ≡ length g → (before : List Header) (i : ℕ) (h : Header) → header_fault f before i h ≡ header_fault g before i h
unfolding header_fault
header_alike f g size before i h = rw size refl

faults_alike : (f g : List ℕ) → length f ≡ length g → (before : List Header) (i : ℕ) (hs : List Header) → faults_from f before i hs ≡ faults_from g before i hs
faults_alike f g size before i [] = refl
faults_alike f g size before i (h ∷ hs) =
    ap₂ (λ (a b : Option ElfError). option_or a b) (header_alike f g size before i h) (faults_alike f g size (before ++ h ∷ []) (i + 1) hs)

-- ---- notes

parts_front : (held rest : List ℕ) (parts : List NotePart) → AreParts held parts → entries_of_parts (held ++ rest) parts ≡ entries_of_parts held parts
parts_front held rest [] lie = refl
parts_front held rest (p ∷ ps) lie =
    ap₂ (λ (bytes : List ℕ) (es : List Entry). entries_from (record { offset = p.offset; bytes = bytes }) ++ es)
    (bytes_front held rest p.offset p.filesz (lie 0 p (omega arith))) (parts_front held rest ps (λ k d h. lie (suc k) d (omega arith)))

entries_front : (held rest : List ℕ) → IsHead held → entries (held ++ rest) ≡ entries held
entries_front held rest head = ap (entries_of_parts (held ++ rest)) (same_parts held rest (inr head)) ∙ parts_front held rest (note_parts_of held) head.notes

-- ---- two files

module _ (held rest other : List ℕ) (head : IsHead held) (size : length rest ≡ length other) where
  lengths_same : length (held ++ rest) ≡ length (held ++ other)
  lengths_same = omega (arith, length-append held rest, length-append held other, size)

  faults_same : fault_of (held ++ rest) ≡ fault_of (held ++ other)
  unfolding fault_of
  faults_same =
      ap₂ (λ (a b : Option ElfError). option_or a b) (same_fault held rest (inr head) ∙ sym (same_fault held other (inr head)))
      (ap (faults_from (held ++ rest) [] 0) (same_headers held rest (inr head)) ∙ faults_alike (held ++ rest) (held ++ other) lengths_same [] 0 (headers held)
      ∙ sym (ap (faults_from (held ++ other) [] 0) (same_headers held other (inr head))))

  entries_same : entries (held ++ rest) ≡ entries (held ++ other)
  entries_same = entries_front held rest head ∙ sym (entries_front held other head)

  note_faults_same : note_fault_of (held ++ rest) ≡ note_fault_of (held ++ other)
  unfolding note_fault_of
  note_faults_same = ap (λ (es : List Entry). first_fault (flat_map entry_faults es ++ (count_statuses es == 0, NoThread) ∷ [])) entries_same

  registers_same : registers_of (held ++ rest) ≡ registers_of (held ++ other)
  unfolding registers_of
  registers_same = ap words_of_entries entries_same

  threads_same : threads_in (held ++ rest) ≡ threads_in (held ++ other)
  unfolding threads_in
  threads_same = ap (λ (es : List Entry). filter_map stack_registers_of es) entries_same

  random_same : random_of (held ++ rest) ≡ random_of (held ++ other)
  unfolding random_of
  random_same = ap (λ (es : List Entry). first_said (filter_map random_of_entry es)) entries_same

pub threads_of_one_head : (held rest other : List ℕ) → IsHead held → length rest ≡ length other → threads_of (held ++ rest) ≡ threads_of (held ++ other)
unfolding threads_of
threads_of_one_head held rest other head size =
    ap₂ (λ (registers : List ℕ) (threads : ℕ). threads_with registers threads) (registers_same held rest other head size) (ap count_statuses (entries_same held rest other head size))
  where
    threads_with : List ℕ → ℕ → Registers
    threads_with registers threads = record { registers = registers; threads = threads }

pub agree_but_words : (held rest other : List ℕ) → IsHead held → length rest ≡ length other → AgreeButWords (held ++ rest) (held ++ other)
agree_but_words held rest other head size = record {
  faults = faults_same held rest other head size;
  note_faults = note_faults_same held rest other head size;
  segments = same_segments held rest (inr head) ∙ sym (same_segments held other (inr head));
  registers = registers_same held rest other head size;
  threads = threads_same held rest other head size;
  random = random_same held rest other head size;
}
