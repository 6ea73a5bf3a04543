-- How long a head is, by the first bytes of a file.
use Rattle.std.proofs.Common.{◌≡◌, ℕ, zero, suc, ◌+◌, ◌*◌, ◌/◌, ◌%◌, ◌<◌, ◌≤◌, max, Bool, true, false, cond, ltb, eqb, ◌&&◌, ◌||◌, not, List, [], ◌∷◌, ◌++◌, length, get_or, map, filter, Option, Some, None, refl, sym, ap, ◌∙◌, arith, subst, eq-eqb, eqb-true, true≢false}
use Rattle.std.specs.Int.{Width, w16, w64, byte_len}
use Rattle.std.specs.List.{list_any}
use Rattle.std.proofs.lemmas.Bool.{le-ltb, lt-ltb, ltb-true, and_parts, or_parts}
use Rattle.std.proofs.lemmas.List.Folds.{list_any_at}
use Rattle.leak_elf.specs.declared.header.Header.{Header}
use Rattle.leak_elf.specs.declared.segment.Segment.{Segment}
use Rattle.leak_elf.specs.declared.segment.NotePart.{NotePart}
use Rattle.leak_elf.specs.Fields.{number_at, e_phoff, e_shoff}
use Rattle.leak_elf.specs.Headers.{is_extended, lacks_section_header, header_count, headers, is_note}
use Rattle.leak_elf.specs.Segments.{note_parts_of, segments_of, kept_of, part_of, AreParts}
use Rattle.leak_elf.specs.Head.{HasTable, IsHead}
use Rattle.leak_elf.specs.HeadLength.{AreBeginnings, has_dumped, IsLeast, IsLength, section_end, note_end, EndBy, IsNotesEnd, is_unfit}
use Rattle.leak_elf.proofs.Heads.{number_front, section_lies, count_by, headers_front}
use Rattle.leak_elf.proofs.Meets.{none_any}
use Rattle.leak_elf.proofs.PlainWords.{any_sorted, any_false_at, any_at}

empty : Segment
empty = record { vaddr = 0; memsz = 0; offset = 0; filesz = 0; writable = false }

-- the file header is the same in both
field : (w : Width) (held bytes : List ℕ) (at : ℕ) → AreBeginnings held bytes → 64 ≤ length held → 64 ≤ length bytes → at + byte_len w ≤ 64 → number_at w held at ≡ number_at w bytes at
field w held bytes at b l m fits =
    sym (number_front w held b.rest at (omega arith)) ∙ ap (λ (file : List ℕ). number_at w file at) b.same ∙ number_front w bytes b.more at (omega arith)

same_extended : (held bytes : List ℕ) → AreBeginnings held bytes → 64 ≤ length held → 64 ≤ length bytes → is_extended held ≡ is_extended bytes
same_extended held bytes b l m = ap (λ (n : ℕ). eqb n 0xffff) (field w16 held bytes 56 b l m (omega arith))

same_shoff : (held bytes : List ℕ) → AreBeginnings held bytes → 64 ≤ length held → 64 ≤ length bytes → e_shoff held ≡ e_shoff bytes
same_shoff held bytes b l m = field w64 held bytes 40 b l m (omega arith)

same_phoff : (held bytes : List ℕ) → AreBeginnings held bytes → 64 ≤ length held → 64 ≤ length bytes → e_phoff held ≡ e_phoff bytes
same_phoff held bytes b l m = field w64 held bytes 32 b l m (omega arith)

same_count : (held bytes : List ℕ) → AreBeginnings held bytes → 64 ≤ length held → 64 ≤ length bytes → (is_extended held ≡ true → lacks_section_header held ≡ false) → (is_extended bytes ≡ true → lacks_section_header bytes ≡ false) → header_count held ≡ header_count bytes
same_count held bytes b l m s t =
    sym (count_by held b.rest (is_extended held) refl l s) ∙ ap header_count b.same ∙ count_by bytes b.more (is_extended bytes) refl m t

same_headers : (held bytes : List ℕ) → AreBeginnings held bytes → HasTable held → HasTable bytes → headers held ≡ headers bytes
same_headers held bytes b t u = sym (headers_front held b.rest t) ∙ ap headers b.same ∙ headers_front bytes b.more u

-- what each head has
section_by : (held : List ℕ) (e : Bool) → is_extended held ≡ e → HasTable held → section_end held ≤ length held
section_by held true e t = let l = section_lies held (t.section_header e) in rw e (omega arith)
section_by held false e t = let l = t.file_header in rw e (omega arith)

section_high : (bytes : List ℕ) (e : Bool) → is_extended bytes ≡ e → 64 ≤ section_end bytes
section_high bytes true e = rw e (omega arith)
section_high bytes false e = rw e (omega arith)

same_section : (held bytes : List ℕ) → AreBeginnings held bytes → 64 ≤ length held → 64 ≤ length bytes → section_end held ≡ section_end bytes
same_section held bytes b l m = rw (field w16 held bytes 56 b l m (omega arith), field w64 held bytes 40 b l m (omega arith)) refl

pub least_header : (bytes : List ℕ) → IsLeast bytes 64
least_header bytes held b head = head.table.file_header

pub least_section : (bytes : List ℕ) → 64 ≤ length bytes → IsLeast bytes (section_end bytes)
least_section bytes m held b head =
    let l = head.table.file_header in
    let s = section_by held (is_extended held) refl head.table in
    let same = same_section held bytes b l m in
    omega arith

pub least_table : (bytes : List ℕ) → 64 ≤ length bytes → (is_extended bytes ≡ true → lacks_section_header bytes ≡ false) → IsLeast bytes (e_phoff bytes + 56 * header_count bytes)
least_table bytes m s held b head =
    let l = head.table.file_header in
    let p = head.table.program_headers in
    let phoff = same_phoff held bytes b l m in
    let count = same_count held bytes b l m head.table.section_header s in
    omega arith

-- no head has its number of program headers in a section header that the file lacks
pub none_lacks : (held bytes : List ℕ) → AreBeginnings held bytes → 64 ≤ length bytes → (is_extended bytes && lacks_section_header bytes) ≡ true → section_end bytes ≤ length bytes → IsHead held → ⊥
none_lacks held bytes b m lacks fits head =
    let l = head.table.file_header in
    let p = and_parts (is_extended bytes) (lacks_section_header bytes) lacks in
    let extended : is_extended held ≡ true = same_extended held bytes b l m ∙ p.0 in
    let has = or_parts (eqb (e_shoff held) 0) (ltb (length held) (e_shoff held + 64)) (head.table.section_header extended) in
    let some : eqb (e_shoff bytes) 0 ≡ false = ap (λ (n : ℕ). eqb n 0) (sym (same_shoff held bytes b l m)) ∙ has.0 in
    let fits' : e_shoff bytes + 64 ≤ length bytes = rw p.0 at fits in
    let not_cut : ltb (length bytes) (e_shoff bytes + 64) ≡ false = le-ltb _ _ fits' in
    let none : lacks_section_header bytes ≡ false = rw (some, not_cut) refl in
    true≢false (sym p.1 ∙ none)

-- parts of notes by their headers
note_by : (h : Header) (n : ℕ) (a b : Bool) → is_note h ≡ a → ltb 0 h.filesz ≡ b → (is_note h ≡ true → 0 < h.filesz → h.offset + h.filesz ≤ n) → note_end h ≤ n
note_by h n true true e f l = rw (e, f) (l e (ltb-true _ _ f))
note_by h n true false e f l = rw (e, f) (omega arith)
note_by h n false b e f l = rw e (omega arith)

rest_lie : (file : List ℕ) (p : NotePart) (ps : List NotePart) → AreParts file (p ∷ ps) → AreParts file ps
rest_lie file p ps lie k d l = lie (suc k) d (omega arith)

first_lies : (file : List ℕ) (p : NotePart) (ps : List NotePart) → AreParts file (p ∷ ps) → 0 < p.filesz → p.offset + p.filesz ≤ length file
first_lies file p ps lie = lie 0 p (omega arith)

end_step : (file : List ℕ) (h : Header) (hs : List Header) (a : Bool) → is_note h ≡ a → (AreParts file (map part_of (filter is_note hs)) → EndBy hs (length file)) → AreParts file (map part_of (filter is_note (h ∷ hs))) → EndBy (h ∷ hs) (length file)
end_step file h hs true e rec lie =
    let lie' : AreParts file (part_of h ∷ map part_of (filter is_note hs)) = rw e at lie in
    (note_by h (length file) true (ltb 0 h.filesz) e refl (λ t p. first_lies file (part_of h) (map part_of (filter is_note hs)) lie' p), rec (rest_lie file (part_of h) (map part_of (filter is_note hs)) lie'))
end_step file h hs false e rec lie =
    let lie' : AreParts file (map part_of (filter is_note hs)) = rw e at lie in
    (note_by h (length file) false (ltb 0 h.filesz) e refl (λ t p. absurd (true≢false (sym t ∙ e))), rec lie')

pub end_in : (file : List ℕ) (hs : List Header) → AreParts file (map part_of (filter is_note hs)) → EndBy hs (length file)
end_in file [] lie = tt
end_in file (h ∷ hs) lie = end_step file h hs (is_note h) refl (end_in file hs) lie

more_lie : (file : List ℕ) (p : NotePart) (ps : List NotePart) → (0 < p.filesz → p.offset + p.filesz ≤ length file) → AreParts file ps → AreParts file (p ∷ ps)
more_lie file p ps one rest zero d l = one
more_lie file p ps one rest (suc k) d l = rest k d (omega arith)

end_some : (h : Header) (n : ℕ) → is_note h ≡ true → note_end h ≤ n → 0 < h.filesz → h.offset + h.filesz ≤ n
end_some h n e l p = rw (e, lt-ltb 0 h.filesz p) at l

lie_step : (file : List ℕ) (n : ℕ) (h : Header) (hs : List Header) (a : Bool) → is_note h ≡ a → n ≤ length file → note_end h ≤ n → AreParts file (map part_of (filter is_note hs)) → AreParts file (map part_of (filter is_note (h ∷ hs)))
lie_step file n h hs true e fits l rest = rw e (more_lie file (part_of h) (map part_of (filter is_note hs)) (λ p. let q = end_some h n e l p in omega arith) rest)
lie_step file n h hs false e fits l rest = rw e rest

pub lie_in : (file : List ℕ) (n : ℕ) (hs : List Header) → n ≤ length file → EndBy hs n → AreParts file (map part_of (filter is_note hs))
lie_in file n [] fits ends = λ k d l. absurd (omega arith)
lie_in file n (h ∷ hs) fits ends = lie_step file n h hs (is_note h) refl fits ends.0 (lie_in file n hs fits ends.1)

end_later : (hs : List Header) (n m : ℕ) → n ≤ m → EndBy hs n → EndBy hs m
end_later [] n m le e = tt
end_later (h ∷ hs) n m le e = (omega (arith, e.0), end_later hs n m le e.1)

end_more : (hs : List Header) (h : Header) (n : ℕ) → EndBy hs n → note_end h ≤ n → EndBy (hs ++ h ∷ []) n
end_more [] h n e l = (l, tt)
end_more (g ∷ gs) h n e l = (e.0, end_more gs h n e.1 l)

end_less : (hs : List Header) (h : Header) (n : ℕ) → EndBy (hs ++ h ∷ []) n → EndBy hs n × (note_end h ≤ n)
end_less [] h n e = (tt, e.0)
end_less (g ∷ gs) h n e = let r = end_less gs h n e.1 in ((e.0, r.0), r.1)

-- one more header
pub notes_end_first : (from : ℕ) → IsNotesEnd [] from from
notes_end_first from = record { from_on = omega arith; each = tt; least = λ n l e. l }

pub notes_end_more : (hs : List Header) (h : Header) (from end : ℕ) → IsNotesEnd hs from end → IsNotesEnd (hs ++ h ∷ []) from (max end (note_end h))
notes_end_more hs h from end is = record {
  from_on = let l = is.from_on in omega arith;
  each = end_more hs h (max end (note_end h)) (end_later hs end (max end (note_end h)) (omega arith) is.each) (omega arith);
  least = λ n l e. let r = end_less hs h n e in let m = is.least n l r.0 in let q = r.1 in omega arith;
}

-- each head ends at the next multiple of 8 or behind it
pub least_notes : (bytes : List ℕ) (from end n : ℕ) → HasTable bytes → IsLeast bytes from → IsNotesEnd (headers bytes) from end → n ≡ (end + 7) / 8 * 8 → IsLeast bytes n
unfolding note_parts_of
least_notes bytes from end n t low is e held b head =
    let ends : EndBy (headers bytes) (length held) = subst (λ (hs : List Header). EndBy hs (length held)) (same_headers held bytes b head.table t) (end_in held (headers held) head.notes) in
    let l : end ≤ length held = is.least (length held) (low held b head) ends in
    let m = head.multiple in
    omega arith

-- so many first bytes are a head
abbrev early : ℕ → Segment → Bool
early n s = ltb 0 s.filesz && (ltb s.offset n || not (eqb (s.offset % 8) (s.vaddr % 8)))

abbrev dumped : ℕ → Segment → Bool
dumped n s = ltb 0 s.filesz && ltb s.offset n

aligned_by : (n : ℕ) (s : Segment) (c : Bool) → eqb (s.offset % 8) (s.vaddr % 8) ≡ c → early n s ≡ false → 0 < s.filesz → s.offset % 8 ≡ s.vaddr % 8
aligned_by n s true e none p = eqb-true _ _ e
aligned_by n s false e none p =
    let some : (ltb s.offset n || true) ≡ false = rw (lt-ltb 0 s.filesz p, e) at none in
    absurd (true≢false (or_parts (ltb s.offset n) true some).1)

dumped_by : (n : ℕ) (s : Segment) (a b : Bool) → ltb 0 s.filesz ≡ a → ltb s.offset n ≡ b → early n s ≡ false → dumped n s ≡ false
dumped_by n s false b e f none = rw e refl
dumped_by n s true false e f none = rw (e, f) refl
dumped_by n s true true e f none = absurd (true≢false (rw (e, f) at none))

has_table : (held bytes : List ℕ) (n : ℕ) → AreBeginnings held bytes → length held ≡ n → 64 ≤ n → HasTable bytes → section_end bytes ≤ n → e_phoff bytes + 56 * header_count bytes ≤ n → HasTable held
has_table held bytes n b e m t s p =
    let l : 64 ≤ length held = omega arith in
    let u = t.file_header in
    let section : is_extended held ≡ true → lacks_section_header held ≡ false = λ x.
    let y : is_extended bytes ≡ true = sym (same_extended held bytes b l u) ∙ x in
    let has = or_parts (eqb (e_shoff bytes) 0) (ltb (length bytes) (e_shoff bytes + 64)) (t.section_header y) in
    let some : eqb (e_shoff held) 0 ≡ false = ap (λ (k : ℕ). eqb k 0) (same_shoff held bytes b l u) ∙ has.0 in
    let fits : e_shoff bytes + 64 ≤ n = rw y at s in
    let cut : ltb (length held) (e_shoff held + 64) ≡ false = le-ltb _ _ (let q = same_shoff held bytes b l u in omega arith) in
    rw (some, cut) refl in
    record {
      file_header = l;
      section_header = section;
      program_headers = let q = same_phoff held bytes b l u in let r = same_count held bytes b l u section t.section_header in omega arith;
    }

pub is_length : (bytes : List ℕ) (from end n : ℕ) → HasTable bytes → section_end bytes ≤ from → e_phoff bytes + 56 * header_count bytes ≤ from → IsNotesEnd (headers bytes) from end → n ≡ (end + 7) / 8 * 8 → list_any (is_unfit n) (headers bytes) ≡ false → IsLength bytes n
unfolding note_parts_of segments_of
is_length bytes from end n t s p is e fit held b size =
    let low = is.from_on in
    let fits : end ≤ n = omega arith in
    let header : 64 ≤ n = let high = section_high bytes (is_extended bytes) refl in omega arith in
    let table = has_table held bytes n b size header t (omega arith) (omega arith) in
    let hs : headers held ≡ headers bytes = same_headers held bytes b table t in
    let none : list_any (early n) (segments_of held) ≡ false = ap (λ (xs : List Header). list_any (early n) (kept_of xs)) hs ∙ any_sorted (early n) (headers bytes) ∙ fit in
    let each = λ (k : ℕ) (d : Segment) (l : k < length (segments_of held)). any_false_at (early n) (segments_of held) k d none l in (
      record {
        table = table;
        multiple = omega arith;
        notes = lie_in held (length held) (headers held) (omega arith) (rw hs (end_later (headers bytes) end (length held) (omega arith) is.each));
        words = λ k d l q. aligned_by n (get_or (segments_of held) k d) (eqb ((get_or (segments_of held) k d).offset % 8) ((get_or (segments_of held) k d).vaddr % 8)) refl (each k d l) q;
      },
      rw size (none_any (dumped n) (segments_of held) empty (λ k l. dumped_by n (get_or (segments_of held) k empty) _ _ refl refl (each k empty l))),
    )

-- there is no head without dumped bytes
unaligned_by : (n m : ℕ) (s : Segment) (a b : Bool) → ltb 0 s.filesz ≡ a → ltb s.offset n ≡ b → n ≤ m → (0 < s.filesz → s.offset % 8 ≡ s.vaddr % 8) → early n s ≡ true → dumped m s ≡ true
unaligned_by n m s true true e f le aligned h = let l = ltb-true _ _ f in rw (e, lt-ltb s.offset m (omega arith)) refl
unaligned_by n m s true false e f le aligned h = absurd (true≢false (sym (rw (e, f, eq-eqb _ _ (aligned (ltb-true _ _ e))) at h)))
unaligned_by n m s false b e f le aligned h = absurd (true≢false (sym (rw e at h)))

pub unfit_dumped : (held bytes : List ℕ) (n : ℕ) → AreBeginnings held bytes → HasTable bytes → IsLeast bytes n → list_any (is_unfit n) (headers bytes) ≡ true → IsHead held → has_dumped held ≡ true
unfolding segments_of
unfit_dumped held bytes n b t least unfit head =
    let hs : headers held ≡ headers bytes = same_headers held bytes b head.table t in
    let any : list_any (early n) (segments_of held) ≡ true = ap (λ (xs : List Header). list_any (early n) (kept_of xs)) hs ∙ any_sorted (early n) (headers bytes) ∙ unfit in
    let p = any_at (early n) (segments_of held) empty any in
    let s = get_or (segments_of held) p.at empty in
    let w = p.within in
    list_any_at (dumped (length held)) (segments_of held) p.at empty w (unaligned_by n (length held) s _ _ refl refl (least held b head) (head.words p.at empty w) p.passes)

-- the number of program headers, and whether the file has it
pub found_some : (c : Bool) (n count : ℕ) → cond {A = Option ℕ} c None (Some n) ≡ Some count → (c ≡ false) × (count ≡ n)
found_some true n count e = absurd cc
found_some false n count e = (refl, cc)

pub found_none : (c : Bool) (n : ℕ) → cond {A = Option ℕ} c None (Some n) ≡ None → c ≡ true
found_none true n e = refl
found_none false n e = absurd cc

pub section_found : (bytes : List ℕ) → (is_extended bytes && lacks_section_header bytes) ≡ false → is_extended bytes ≡ true → lacks_section_header bytes ≡ false
section_found bytes e x = rw x at e

pub least_both : (bytes : List ℕ) (m n : ℕ) → IsLeast bytes m → IsLeast bytes n → IsLeast bytes (max m n)
least_both bytes m n k l held b head = let p = k held b head in let q = l held b head in omega arith
