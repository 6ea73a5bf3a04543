-- What is read of the head of a file is what is read of the file.
use Rattle.std.proofs.Common.{◌≡◌, ℕ, zero, suc, ◌+◌, ◌-◌, ◌*◌, ◌%◌, ◌<◌, ◌≤◌, ◌⊎◌, inl, inr, Bool, true, false, ltb, ◌&&◌, List, [], ◌∷◌, ◌++◌, length, take, drop, map, filter, Some, None, refl, sym, ap, ◌∙◌, arith, length-append, eqb, subst}
use Rattle.std.specs.Prelude.{slice_range}
use Rattle.std.specs.Int.{Width, w16, w32, w64, byte_len, from_le_bytes}
use Rattle.std.specs.List.{range_with_len}
use Rattle.std.proofs.lemmas.Bool.{le-ltb, ltb-false, or_parts}
use Rattle.std.proofs.lemmas.List.{append-nil, take-append-le, drop-append-le, get_or_append_left, length-drop}
use Rattle.leak_elf.specs.declared.header.Header.{Header}
use Rattle.leak_elf.specs.declared.error.ElfError.{ElfError}
use Rattle.leak_elf.specs.Fields.{number_at, e_phoff, e_shoff}
use Rattle.leak_elf.specs.Headers.{header_at, is_extended, lacks_section_header, header_count, headers, is_note}
use Rattle.leak_elf.specs.Refusals.{file_fault, faults_from, fault_of}
use Rattle.leak_elf.specs.Segments.{note_parts_of, segments_of, kept_of, part_of, bytes_at, AreParts}
use Rattle.leak_elf.specs.Head.{HasTable, IsHead, AreAligned}

-- a part of the first bytes
pub slice_front : (held rest : List ℕ) (a b : ℕ) → a ≤ b → b ≤ length held → slice_range (held ++ rest) a b ≡ slice_range held a b
slice_front held rest a b le fits =
    ap (take {A = ℕ} (b - a)) (drop-append-le a held rest (omega arith)) ∙ take-append-le (b - a) (drop a held) rest (omega (arith, length-drop a held))

pub number_front : (w : Width) (held rest : List ℕ) (at : ℕ) → at + byte_len w ≤ length held → number_at w (held ++ rest) at ≡ number_at w held at
unfolding number_at
number_front w held rest at fits = ap (from_le_bytes w) (slice_front held rest at (at + byte_len w) (omega arith) fits)

drop_front : (held rest : List ℕ) (at : ℕ) → drop (length held + at) (held ++ rest) ≡ drop at rest
drop_front [] rest at = let e : 0 + at ≡ at = omega arith in rw e refl
drop_front (x ∷ xs) rest at = let e : suc (length xs) + at ≡ suc (length xs + at) = omega arith in rw e (drop_front xs rest at)

-- a number behind them
pub number_behind : (held rest : List ℕ) (at : ℕ) → length held ≤ at → number_at w64 (held ++ rest) at ≡ number_at w64 rest (at - length held)
unfolding number_at
number_behind held rest at low =
    let n = at - length held in
    let e : at ≡ length held + n = omega arith in
    let size : at + 8 - at ≡ n + 8 - n = omega arith in
    ap (from_le_bytes w64) (ap (λ (k : ℕ). take k (drop at (held ++ rest))) size ∙ ap (λ (k : ℕ). take (n + 8 - n) (drop k (held ++ rest))) e ∙ ap (take {A = ℕ} (n + 8 - n)) (drop_front held rest n))

-- the headers
header_front : (held rest : List ℕ) (at : ℕ) → at + 56 ≤ length held → header_at (held ++ rest) at ≡ header_at held at
unfolding header_at
header_front held rest at fits =
    rw (
      number_front w32 held rest at (omega arith),
      number_front w32 held rest (at + 4) (omega arith),
      number_front w64 held rest (at + 8) (omega arith),
      number_front w64 held rest (at + 16) (omega arith),
      number_front w64 held rest (at + 32) (omega arith),
      number_front w64 held rest (at + 40) (omega arith),
    ) refl

same_table : (held rest : List ℕ) (start from n : ℕ) → start + 56 * (from + n) ≤ length held
    → map (λ (i : ℕ). header_at (held ++ rest) (start + 56 * i)) (range_with_len from n) ≡ map (λ (i : ℕ). header_at held (start + 56 * i)) (range_with_len from n)
same_table held rest start from zero fits = refl
same_table held rest start from (suc n) fits =
    rw (header_front held rest (start + 56 * from) (omega arith), same_table held rest start (from + 1) n (omega arith)) refl

-- section header 0 lies in the first bytes
pub section_lies : (held : List ℕ) → lacks_section_header held ≡ false → e_shoff held + 64 ≤ length held
section_lies held e = let p = or_parts (eqb (e_shoff held) 0) (ltb (length held) (e_shoff held + 64)) e in ltb-false _ _ p.1

pub count_by : (held rest : List ℕ) (b : Bool) → is_extended held ≡ b → 64 ≤ length held → (is_extended held ≡ true → lacks_section_header held ≡ false) → header_count (held ++ rest) ≡ header_count held
count_by held rest true e long section =
    let l = section_lies held (section e) in
    rw (number_front w16 held rest 56 (omega arith), number_front w64 held rest 40 (omega arith), e) (number_front w32 held rest (e_shoff held + 44) (omega arith))
count_by held rest false e long section = rw (number_front w16 held rest 56 (omega arith), e) refl

count_front : (held rest : List ℕ) → HasTable held → header_count (held ++ rest) ≡ header_count held
count_front held rest head = count_by held rest (is_extended held) refl head.file_header head.section_header

pub headers_front : (held rest : List ℕ) → HasTable held → headers (held ++ rest) ≡ headers held
unfolding headers
headers_front held rest head =
    let long = head.file_header in
    rw (number_front w64 held rest 32 (omega arith), count_front held rest head)
    (same_table held rest (e_phoff held) 0 (header_count held) (let t = head.program_headers in omega arith))

-- the faults of the file header
extended_by : (held rest : List ℕ) (b : Bool) → is_extended held ≡ b → 64 ≤ length held → (is_extended held ≡ true → lacks_section_header held ≡ false)
    → (is_extended (held ++ rest) && lacks_section_header (held ++ rest)) ≡ (is_extended held && lacks_section_header held)
extended_by held rest true e long section =
    let lies = section_lies held (section e) in
    let p = or_parts (eqb (e_shoff held) 0) (ltb (length held) (e_shoff held + 64)) (section e) in
    let cut : ltb (length (held ++ rest)) (e_shoff held + 64) ≡ false = le-ltb _ _ (omega (arith, length-append held rest)) in
    rw (number_front w16 held rest 56 (omega arith), number_front w64 held rest 40 (omega arith), e, p.0, p.1, cut) refl
extended_by held rest false e long section = rw (number_front w16 held rest 56 (omega arith), e) refl

table_front : (held rest : List ℕ) → HasTable held → ltb (length (held ++ rest)) (e_phoff (held ++ rest) + 56 * header_count (held ++ rest)) ≡ ltb (length held) (e_phoff held + 56 * header_count held)
table_front held rest head =
    let long = head.file_header in
    let table = head.program_headers in
    rw (number_front w64 held rest 32 (omega arith), count_front held rest head)
    (le-ltb _ _ (omega (arith, length-append held rest)) ∙ sym (le-ltb (length held) (e_phoff held + 56 * header_count held) table))

fault_front : (held rest : List ℕ) → HasTable held → file_fault (held ++ rest) ≡ file_fault held
unfolding file_fault
fault_front held rest head =
    let long = head.file_header in
    let short : ltb (length (held ++ rest)) 64 ≡ ltb (length held) 64 = le-ltb _ _ (omega (arith, length-append held rest)) ∙ sym (le-ltb (length held) 64 long) in
    rw (
      extended_by held rest (is_extended held) refl long head.section_header,
      table_front held rest head,
      short,
      take-append-le 4 held rest (omega arith),
      get_or_append_left held rest 0 4 (omega arith),
      get_or_append_left held rest 0 5 (omega arith),
      get_or_append_left held rest 0 6 (omega arith),
      number_front w16 held rest 16 (omega arith),
      number_front w16 held rest 18 (omega arith),
      number_front w16 held rest 54 (omega arith),
    ) refl

-- the same of a file that is held, or whose head is
pub same_headers : (held rest : List ℕ) → (rest ≡ []) ⊎ IsHead held → headers (held ++ rest) ≡ headers held
same_headers held rest h = elim h [ inl e ↦ rw (e, append-nil held) refl | inr head ↦ headers_front held rest head.table ]

pub same_fault : (held rest : List ℕ) → (rest ≡ []) ⊎ IsHead held → file_fault (held ++ rest) ≡ file_fault held
same_fault held rest h = elim h [ inl e ↦ rw (e, append-nil held) refl | inr head ↦ fault_front held rest head.table ]

pub parts_held : (held rest : List ℕ) → (rest ≡ []) ⊎ IsHead held → AreParts (held ++ rest) (note_parts_of held) → AreParts held (note_parts_of held)
parts_held held rest h lie = elim h [ inl e ↦ subst (λ (file : List ℕ). AreParts file (note_parts_of held)) (ap (λ (xs : List ℕ). held ++ xs) e ∙ append-nil held) lie | inr head ↦ head.notes ]

pub words_held : (held rest : List ℕ) → (rest ≡ []) ⊎ IsHead held → (rest ≡ []) ⊎ ((length held % 8 ≡ 0) × AreAligned (segments_of held))
words_held held rest h = elim h [ inl e ↦ inl e | inr head ↦ inr (head.multiple, head.words) ]

-- the bytes of a part that is held
pub bytes_front : (held rest : List ℕ) (offset n : ℕ) → (0 < n → offset + n ≤ length held) → bytes_at (held ++ rest) offset n ≡ bytes_at held offset n
bytes_front held rest offset zero fits = let e : offset + 0 - offset ≡ 0 = omega arith in rw e refl
bytes_front held rest offset (suc n) fits = slice_front held rest offset (offset + suc n) (omega arith) (fits (omega arith))

-- an accepted file, and a refused one
pub accepts : (held rest : List ℕ) → (rest ≡ []) ⊎ IsHead held → file_fault held ≡ None → faults_from (held ++ rest) [] 0 (headers held) ≡ None → fault_of (held ++ rest) ≡ None
unfolding fault_of
accepts held rest h e f = rw (same_fault held rest h, same_headers held rest h, e, f) refl

pub refuses_file : (held rest : List ℕ) (x : ElfError) → (rest ≡ []) ⊎ IsHead held → file_fault held ≡ Some x → fault_of (held ++ rest) ≡ Some x
unfolding fault_of
refuses_file held rest x h e = rw (same_fault held rest h, e) refl

pub refuses_header : (held rest : List ℕ) (x : ElfError) → (rest ≡ []) ⊎ IsHead held → file_fault held ≡ None → faults_from (held ++ rest) [] 0 (headers held) ≡ Some x → fault_of (held ++ rest) ≡ Some x
unfolding fault_of
refuses_header held rest x h e f = rw (same_fault held rest h, same_headers held rest h, e, f) refl

pub same_segments : (held rest : List ℕ) → (rest ≡ []) ⊎ IsHead held → segments_of (held ++ rest) ≡ segments_of held
unfolding segments_of
same_segments held rest h = ap kept_of (same_headers held rest h)

pub same_parts : (held rest : List ℕ) → (rest ≡ []) ⊎ IsHead held → note_parts_of (held ++ rest) ≡ note_parts_of held
unfolding note_parts_of
same_parts held rest h = ap (λ (hs : List Header). map part_of (filter is_note hs)) (same_headers held rest h)
