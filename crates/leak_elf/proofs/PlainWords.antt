-- A word of an accepted file is the one that a program header holds.
use Rattle.std.proofs.Common.{◌≡◌, ℕ, suc, ◌+◌, ◌-◌, ◌%◌, ◌<◌, ◌≤◌, Bool, true, false, ltb, leb, eqb, ◌&&◌, ◌||◌, List, [], ◌∷◌, ◌++◌, length, get_or, map, filter, find, Option, Some, None, option_map, refl, ap, ◌∙◌, arith}
use Rattle.std.specs.Int.{w64}
use Rattle.std.specs.List.{list_any}
use Rattle.std.proofs.lemmas.Bool.{lt-ltb, ltb-true, ltb-false, leb-true, eqb-true, eq-eqb, and_parts, and_from, or_parts}
use Rattle.std.proofs.lemmas.List.Folds.{list_any_at}
use Rattle.leak_elf.specs.declared.header.Header.{Header}
use Rattle.leak_elf.specs.declared.segment.Segment.{Segment}
use Rattle.leak_elf.specs.Fields.{number_at}
use Rattle.leak_elf.specs.Headers.{headers, is_load, has_addresses}
use Rattle.leak_elf.specs.Refusals.{header_fault, faults_from, file_fault, fault_of}
use Rattle.leak_elf.specs.Segments.{ascending, segment_of, segments_of, AreSegments}
use Rattle.leak_elf.specs.Words.{holds_word, word_in, word_of}
use Rattle.leak_elf.specs.Plain.{header_holds, plain_word_of}
use Rattle.leak_elf.proofs.Accepted.{no_first, fine, accepted}
use Rattle.leak_elf.proofs.Held.{word_none, word_odd, word_some}
use Rattle.leak_elf.proofs.Meets.{any_ascending}

-- what is found, and what any test says of it
data FirstHeader (q : Header → Bool) (hs : List Header) (r : Option Header) : Type 0 where
  none : r ≡ None → list_any q hs ≡ false → FirstHeader q hs r
  one : (h : Header) → r ≡ Some h → q h ≡ true → ((p : Header → Bool) → p h ≡ true → list_any p hs ≡ true) → FirstHeader q hs r

pub or_true : (a b : Bool) → b ≡ true → (a || b) ≡ true
or_true true b e = refl
or_true false b e = e

found_step : (q : Header → Bool) (h : Header) (hs : List Header) (b : Bool) → q h ≡ b → FirstHeader q hs (find q hs) → FirstHeader q (h ∷ hs) (find q (h ∷ hs))
found_step q h hs true e f = one h (rw e refl) e (λ p t. rw t refl)
found_step q h hs false e f =
    elim f [
      | none r a ↦ none (rw e r) (rw e a)
      | one g r t any ↦ one g (rw e r) t (λ p u. or_true (p h) (list_any p hs) (any p u))
    ]

found : (q : Header → Bool) (hs : List Header) → FirstHeader q hs (find q hs)
found q [] = none refl refl
found q (h ∷ hs) = found_step q h hs (q h) refl (found q hs)

any_kept_by : (p : Segment → Bool) (g : Header) (gs : List Header) (b : Bool) → has_addresses g ≡ b → list_any p (map segment_of (filter has_addresses gs)) ≡ list_any (λ h. has_addresses h && p (segment_of h)) gs
    → list_any p (map segment_of (filter has_addresses (g ∷ gs))) ≡ list_any (λ h. has_addresses h && p (segment_of h)) (g ∷ gs)
any_kept_by p g gs true e r = rw (e, r) refl
any_kept_by p g gs false e r = rw (e, r) refl

any_kept : (p : Segment → Bool) (hs : List Header) → list_any p (map segment_of (filter has_addresses hs)) ≡ list_any (λ h. has_addresses h && p (segment_of h)) hs
any_kept p [] = refl
any_kept p (h ∷ hs) = any_kept_by p h hs (has_addresses h) refl (any_kept p hs)

pub any_sorted : (p : Segment → Bool) (hs : List Header) → list_any p (ascending [] (map segment_of (filter has_addresses hs))) ≡ list_any (λ h. has_addresses h && p (segment_of h)) hs
any_sorted p hs = any_ascending p [] (map segment_of (filter has_addresses hs)) ∙ any_kept p hs

not_true : (b : Bool) → (b ≡ true → ⊥) → b ≡ false
not_true true h = absurd (h refl)
not_true false h = refl

-- a test that passes no more than another
any_less : (p q : Header → Bool) (hs : List Header) → ((h : Header) → p h ≡ true → q h ≡ true) → list_any q hs ≡ false → list_any p hs ≡ false
any_less p q [] le e = refl
any_less p q (h ∷ hs) le e =
    let parts = or_parts (q h) (list_any q hs) e in
    rw (not_true (p h) (λ t. let u = le h t in absurd cc), any_less p q hs le parts.1) refl

pub any_false_at : (p : Segment → Bool) (xs : List Segment) (k : ℕ) (d : Segment) → list_any p xs ≡ false → k < length xs → p (get_or xs k d) ≡ false
any_false_at p xs k d e l = not_true _ (λ t. let u = list_any_at p xs k d l t in absurd cc)

-- where a test passes
pub record At (p : Segment → Bool) (xs : List Segment) (d : Segment) : Type 0 where
  pub at : ℕ
  pub within : at < length xs
  pub passes : p (get_or xs at d) ≡ true

any_at_by : (p : Segment → Bool) (x : Segment) (xs : List Segment) (d : Segment) (b : Bool) → p x ≡ b → (list_any p xs ≡ true → At p xs d) → (b || list_any p xs) ≡ true → At p (x ∷ xs) d
any_at_by p x xs d true e rec t = record { at = 0; within = omega arith; passes = e }
any_at_by p x xs d false e rec t = let r = rec t in record { at = suc r.at; within = let w = r.within in omega arith; passes = r.passes }

pub any_at : (p : Segment → Bool) (xs : List Segment) (d : Segment) → list_any p xs ≡ true → At p xs d
any_at p [] d e = absurd cc
any_at p (x ∷ xs) d e = any_at_by p x xs d (p x) refl (any_at p xs d) e

-- no PT_LOAD header of an accepted file has more bytes in the file than in memory
abbrev oversized : Header → Bool
oversized h = is_load h && ltb h.memsz h.filesz

sized_one : (file : List ℕ) (before : List Header) (i : ℕ) (h : Header) (b : Bool) → is_load h ≡ b → header_fault file before i h ≡ None → oversized h ≡ false
sized_one file before i h false e ok = rw e refl
sized_one file before i h true e ok = let f = fine file before i h e ok in not_true _ (λ t. let s = f.sizes in let u = and_parts _ _ t in absurd (let v = ltb-true h.memsz h.filesz u.1 in omega arith))

sized : (file : List ℕ) (before hs : List Header) (i : ℕ) → faults_from file before i hs ≡ None → list_any oversized hs ≡ false
sized file before [] i e = refl
sized file before (h ∷ hs) i e =
    let p = no_first _ _ e in
    rw (sized_one file before i h (is_load h) refl p.0, sized file (before ++ h ∷ []) hs (i + 1) p.1) refl

empty : Segment
empty = record { vaddr = 0; memsz = 0; offset = 0; filesz = 0; writable = false }

-- a segment that holds the word, and has the address and the offset of the header
abbrev alike : ℕ → Header → Segment → Bool
alike a h s = holds_word a s && (eqb s.vaddr h.vaddr && eqb s.offset h.offset)

load_of : (a : ℕ) (h : Header) → (has_addresses h && holds_word a (segment_of h)) ≡ true → header_holds a h ≡ true
load_of a h t =
    let u = and_parts (has_addresses h) (holds_word a (segment_of h)) t in
    let v = and_parts (is_load h) (ltb 0 h.memsz) u.0 in
    and_from (is_load h) (holds_word a (segment_of h)) v.0 u.1

plain_in : (file : List ℕ) (hs : List Header) (a : ℕ) → a % 8 ≡ 0 → AreSegments file (ascending [] (map segment_of (filter has_addresses hs))) → list_any oversized hs ≡ false → (r : Option Header) → FirstHeader (header_holds a) hs r
    → word_in file (ascending [] (map segment_of (filter has_addresses hs))) a ≡ option_map (λ h. number_at w64 file (h.offset + (a - h.vaddr))) r
plain_in file hs a e segs fits r f =
    let xs = ascending [] (map segment_of (filter has_addresses hs)) in
    elim f [
      | none n any ↦
          let no = any_sorted (holds_word a) hs ∙ any_less (λ h. has_addresses h && holds_word a (segment_of h)) (header_holds a) hs (load_of a) any in
          rw n (word_none file xs a empty (λ k l. any_false_at (holds_word a) xs k empty no l))
      | one h n t any ↦
          let u = and_parts (is_load h) (holds_word a (segment_of h)) t in
          let w = and_parts (leb h.vaddr a) (leb (a + 8) (h.vaddr + h.filesz)) u.1 in
          let low = leb-true h.vaddr a w.0 in
          let high = leb-true (a + 8) (h.vaddr + h.filesz) w.1 in
          let size : h.filesz ≤ h.memsz = ltb-false _ _ (not_true (ltb h.memsz h.filesz) (λ o. let z = any oversized (and_from (is_load h) (ltb h.memsz h.filesz) u.0 o) in absurd cc)) in
          let has : has_addresses h ≡ true = and_from (is_load h) (ltb 0 h.memsz) u.0 (lt-ltb 0 h.memsz (omega arith)) in
          let like : alike a h (segment_of h) ≡ true = and_from (holds_word a (segment_of h)) (eqb h.vaddr h.vaddr && eqb h.offset h.offset) u.1 (and_from (eqb h.vaddr h.vaddr) (eqb h.offset h.offset) (eq-eqb h.vaddr h.vaddr refl) (eq-eqb h.offset h.offset refl)) in
          let p = any_at (alike a h) xs empty (any_sorted (alike a h) hs ∙ any (λ g. has_addresses g && alike a h (segment_of g)) (and_from (has_addresses h) (alike a h (segment_of h)) has like)) in
          let s = get_or xs p.at empty in
          let q = and_parts (holds_word a s) (eqb s.vaddr h.vaddr && eqb s.offset h.offset) p.passes in
          let same = and_parts (eqb s.vaddr h.vaddr) (eqb s.offset h.offset) q.1 in
          let held = and_parts (leb s.vaddr a) (leb (a + 8) (s.vaddr + s.filesz)) q.0 in
          let word = word_some file xs a p.at empty segs.kept (eq-eqb _ _ e) p.within (leb-true _ _ held.0) (leb-true _ _ held.1) in
          rw n (word ∙ ap (λ (n : ℕ). Some (number_at w64 file n)) (rw (eqb-true _ _ same.0, eqb-true _ _ same.1) refl))
    ]

plain_by : (file : List ℕ) (a : ℕ) (b : Bool) → eqb (a % 8) 0 ≡ b → faults_from file [] 0 (headers file) ≡ None → word_of file a ≡ plain_word_of file a
unfolding word_of plain_word_of segments_of
plain_by file a true e ok =
    plain_in file (headers file) a (eqb-true _ _ e) (accepted file (headers file) ok) (sized file [] (headers file) 0 ok) (find (header_holds a) (headers file)) (found (header_holds a) (headers file))
    ∙ rw e refl
plain_by file a false e ok = word_odd file (segments_of file) a (λ z. let t = eq-eqb (a % 8) 0 z in absurd cc) ∙ rw e refl

pub word_plain : (file : List ℕ) → fault_of file ≡ None → (a : ℕ) → word_of file a ≡ plain_word_of file a
unfolding fault_of
word_plain file ok a = plain_by file a (eqb (a % 8) 0) refl (no_first (file_fault file) _ ok).1
