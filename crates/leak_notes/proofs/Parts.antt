-- Taking parts one after another.
use Rattle.std.proofs.Common.{◌≡◌, ℕ, ◌+◌, ◌<◌, ◌≤◌, List, [], ◌∷◌, ◌++◌, length, get_or, take, drop, eqb, Some, None, refl, sym, ap, ◌∙◌, append-nil, take-append-drop, take_all, flat_map, add-one, arith}
use Rattle.std.proofs.Math.Seq.{drop-cons}
use Rattle.std.proofs.lemmas.Bool.{ne_eqb}
use Rattle.std.proofs.lemmas.Grind.{flat_map-append}
use Rattle.std.proofs.lemmas.List.{take_more}
use Rattle.leak_elf.specs.declared.segment.NotePart.{NotePart}
use Rattle.leak_elf.specs.Segments.{note_parts_of, bytes_at}
use Rattle.leak_notes.specs.declared.error.NoteError.{NoteError}
use Rattle.leak_notes.specs.declared.error.NoteError.TheVariants.{NoThread}
use Rattle.leak_notes.specs.Entry.{Entry, entries_from}
use Rattle.leak_notes.specs.Threads.{Registers, TakesUp, entries, entries_of_parts, first_entry, first_fault_among, entry_faults, count_statuses, note_fault_of, threads_of, registers_of}
use Rattle.leak_notes.proofs.Gathering.{takes_more, among-behind, among-before, first_fault-behind, first_fault-before}

abbrev pub nothing : Registers
nothing = record { registers = []; threads = 0 }

-- the entries of the first parts were taken
abbrev pub AreTaken : List ℕ → ℕ → Registers → Type 0
AreTaken file i threads = TakesUp nothing threads (entries_of_parts file (take i (note_parts_of file)))

one_part : (file : List ℕ) (p : NotePart) → entries_of_parts file (p ∷ []) ≡ entries_from (first_entry file p)
one_part file p = append-nil (entries_from (first_entry file p))

parts-append : (file : List ℕ) (ps qs : List NotePart) → entries_of_parts file (ps ++ qs) ≡ entries_of_parts file ps ++ entries_of_parts file qs
parts-append file ps qs = flat_map-append (λ (p : NotePart). entries_from (first_entry file p)) ps qs

pub part_more : (file : List ℕ) (i : ℕ) (d : NotePart) (old new : Registers) → i < length (note_parts_of file) → AreTaken file i old → TakesUp old new (entries_from (first_entry file (get_or (note_parts_of file) i d))) → AreTaken file (i + 1) new
part_more file i d old new h taken more =
    let ps = note_parts_of file in
    let p = get_or ps i d in
    let same : entries_of_parts file (take (i + 1) ps) ≡ entries_of_parts file (take i ps) ++ entries_from (first_entry file p) =
    ap (entries_of_parts file) (take_more ps i d h) ∙ parts-append file (take i ps) (p ∷ []) ∙ ap (λ (es : List Entry). entries_of_parts file (take i ps) ++ es) (one_part file p) in
    rw same (takes_more nothing old new (entries_of_parts file (take i ps)) (entries_from (first_entry file p)) taken more)

parts_split : (file : List ℕ) (i : ℕ) (d : NotePart) → i < length (note_parts_of file)
    → entries file ≡ entries_of_parts file (take i (note_parts_of file)) ++ (entries_from (first_entry file (get_or (note_parts_of file) i d)) ++ entries_of_parts file (drop (i + 1) (note_parts_of file)))
parts_split file i d h =
    let ps = note_parts_of file in
    let cut : drop i ps ≡ get_or ps i d ∷ drop (i + 1) ps = rw (add-one, drop-cons ps i d) refl in
    ap (entries_of_parts file) (sym (take-append-drop i ps)) ∙ parts-append file (take i ps) (drop i ps)
    ∙ ap (λ (qs : List NotePart). entries_of_parts file (take i ps) ++ entries_of_parts file qs) cut

-- a fault of a part after parts without one
pub part_refused : (file : List ℕ) (i : ℕ) (d : NotePart) (threads : Registers) (e : NoteError) → i < length (note_parts_of file) → AreTaken file i threads → first_fault_among (entries_from (first_entry file (get_or (note_parts_of file) i d))) ≡ Some e → note_fault_of file ≡ Some e
unfolding note_fault_of
part_refused file i d threads e h taken fault =
    let ps = note_parts_of file in
    let here = entries_from (first_entry file (get_or ps i d)) in
    let rest = entries_of_parts file (drop (i + 1) ps) in
    let first : first_fault_among (entries file) ≡ Some e =
    ap first_fault_among (parts_split file i d h) ∙ among-behind (entries_of_parts file (take i ps)) (here ++ rest) taken.faultless ∙ among-before here rest e fault in
    first_fault-before (flat_map entry_faults (entries file)) ((eqb (count_statuses (entries file)) 0, NoThread) ∷ []) e first

-- no thread status, and no other fault
pub no_thread : (file : List ℕ) (threads : Registers) → TakesUp nothing threads (entries file) → threads.threads ≡ 0 → note_fault_of file ≡ Some NoThread
unfolding note_fault_of
no_thread file threads taken none =
    let zero : count_statuses (entries file) ≡ 0 = let t = taken.count in omega arith in
    first_fault-behind (flat_map entry_faults (entries file)) ((eqb (count_statuses (entries file)) 0, NoThread) ∷ []) taken.faultless ∙ (rw zero refl)

same_threads : (a b : Registers) → a.registers ≡ b.registers → a.threads ≡ b.threads → a ≡ b
same_threads a b p q = λ i. record { registers = p i; threads = q i }

-- a thread status, and no fault
pub all_taken : (file : List ℕ) (threads : Registers) → TakesUp nothing threads (entries file) → (threads.threads ≡ 0 → ⊥) → (threads ≡ threads_of file) × (note_fault_of file ≡ None)
unfolding note_fault_of threads_of registers_of
all_taken file threads taken some =
    let more : count_statuses (entries file) ≡ 0 → ⊥ = λ z. let t = taken.count in some (omega arith) in
    let c : threads.threads ≡ count_statuses (entries file) = let t = taken.count in omega arith in
    (same_threads threads (threads_of file) taken.words c, first_fault-behind (flat_map entry_faults (entries file)) ((eqb (count_statuses (entries file)) 0, NoThread) ∷ []) taken.faultless ∙ (rw (ne_eqb (count_statuses (entries file)) 0 more) refl))

-- all parts were taken
pub taken_whole : (file : List ℕ) (items : List NotePart) (i : ℕ) (threads : Registers) → items ≡ note_parts_of file → length items ≤ i → AreTaken file i threads → TakesUp nothing threads (entries file)
taken_whole file items i threads is h taken =
    let long : length (note_parts_of file) ≤ i = rw is at h in
    rw (take_all i (note_parts_of file) long) at taken

-- the part that is read is the part with the number
pub part_read : (file : List ℕ) (items : List NotePart) (i : ℕ) (d : NotePart) (bytes : List ℕ) → items ≡ note_parts_of file
    → ((d : NotePart) → bytes ≡ bytes_at file (get_or (note_parts_of file) i d).offset (get_or (note_parts_of file) i d).filesz)
    → entries_from (record { offset = (get_or items i d).offset; bytes = bytes }) ≡ entries_from (first_entry file (get_or (note_parts_of file) i d))
part_read file items i d bytes is h = rw (is, h d) refl
