-- The segments of a file without a fault.
use Rattle.std.proofs.Common.{◌≡◌, ℕ, zero, suc, ◌+◌, ◌-◌, ◌^◌, ◌<◌, ◌≤◌, max, min, Bool, true, false, ltb, ◌&&◌, ◌||◌, List, [], ◌∷◌, ◌++◌, length, get_or, map, filter, Option, Some, None, refl, sym, ap, ◌∙◌, ◌⊎◌, inl, inr, arith, subst}
use Rattle.std.specs.List.{insert, list_any}
use Rattle.std.specs.Option.{option_or}
use Rattle.std.proofs.lemmas.Bool.{lt-ltb, ltb-false, ltb-true, cases_lt, and_parts, or_parts, or_right}
use Rattle.std.proofs.lemmas.List.Folds.{list_any-append}
use Rattle.std.proofs.lemmas.List.Edits.{length-insert}
use Rattle.leak_elf.specs.declared.header.Header.{Header}
use Rattle.leak_elf.specs.declared.segment.Segment.{Segment}
use Rattle.leak_elf.specs.declared.segment.NotePart.{NotePart}
use Rattle.leak_elf.specs.declared.error.ElfError.TheVariants.{Truncated, SizeOrder, Wrap, Overlap}
use Rattle.leak_elf.specs.Headers.{is_load, is_note}
use Rattle.leak_elf.specs.Segments.{by_address, ascending, segment_of, part_of, IsKeptSegment, AreKeptSegments, AreSegments, AreParts}
use Rattle.leak_elf.specs.Headers.{has_addresses, share_address}
use Rattle.leak_elf.specs.Refusals.{first_fault, header_fault, faults_from}
use Rattle.leak_elf.proofs.Kept.{was}
use Rattle.leak_elf.proofs.Kept.Was.{low, new, high}
use Rattle.leak_elf.proofs.Held.{ascend}

pub no_first : {E : Type 0} (a b : Option E) → option_or a b ≡ None → (a ≡ None) × (b ≡ None)
no_first None b e = (refl, e)
no_first (Some x) b e = absurd cc

four : {E : Type 0} (a b c d : Bool) (w x y z : E) → first_fault ((a, w) ∷ (b, x) ∷ (c, y) ∷ (d, z) ∷ []) ≡ None → (a ≡ false) × (b ≡ false) × (c ≡ false) × (d ≡ false)
four true b c d w x y z e = absurd cc
four false true c d w x y z e = absurd cc
four false false true d w x y z e = absurd cc
four false false false true w x y z e = absurd cc
four false false false false w x y z e = (refl, refl, refl, refl)

-- what a header without a fault is, if it has addresses
pub record Fine (file : List ℕ) (before : List Header) (h : Header) : Type 0 where
  pub sizes : h.filesz ≤ h.memsz
  pub high : h.vaddr + h.memsz < 2 ^ 64
  pub dumped : 0 < h.filesz → h.offset + h.filesz ≤ length file
  pub apart : list_any (λ g. is_load g && share_address g h) before ≡ false

pub fine : (file : List ℕ) (before : List Header) (i : ℕ) (h : Header) → is_load h ≡ true → header_fault file before i h ≡ None → Fine file before h
unfolding header_fault
fine file before i h l e =
    let r = four ((is_load h || is_note h) && ltb 0 h.filesz && ltb (length file) (h.offset + h.filesz)) (is_load h && ltb h.memsz h.filesz) (is_load h && ltb (2 ^ 64 - 1) (h.vaddr + h.memsz)) (is_load h && list_any (λ g. is_load g && share_address g h) before) (Truncated i) (SizeOrder i) (Wrap i) (Overlap i) e in
    let a' : (ltb 0 h.filesz && ltb (length file) (h.offset + h.filesz)) ≡ false = rw l at r.0 in
    let b' : ltb h.memsz h.filesz ≡ false = rw l at r.1 in
    let c' : ltb (2 ^ 64 - 1) (h.vaddr + h.memsz) ≡ false = rw l at r.2 in
    let d' : list_any (λ g. is_load g && share_address g h) before ≡ false = rw l at r.3 in
    record {
      sizes = ltb-false _ _ b';
      high = let x = ltb-false _ _ c' in omega arith;
      dumped = λ p. ltb-false _ _ (rw (lt-ltb 0 h.filesz p) at a');
      apart = d';
    }

-- one ends before the other begins
Beside : Segment → Segment → Type 0
Beside s t = (s.vaddr + s.memsz ≤ t.vaddr) ⊎ (t.vaddr + t.memsz ≤ s.vaddr)

-- the place at which a segment is put
pub record InsertionPlace (s : Segment) (xs : List Segment) : Type 0 where
  pub at : ℕ
  pub bound : at ≤ length xs
  pub is : by_address s xs ≡ insert xs at s
  pub within : (k : ℕ) (d : Segment) → k < at → (get_or xs k d).vaddr ≤ s.vaddr
  pub beyond : (d : Segment) → at < length xs → s.vaddr < (get_or xs at d).vaddr

within_more : (s t : Segment) (ts : List Segment) (n : ℕ) → t.vaddr ≤ s.vaddr → ((k : ℕ) (d : Segment) → k < n → (get_or ts k d).vaddr ≤ s.vaddr) → (k : ℕ) (d : Segment) → k < suc n → (get_or (t ∷ ts) k d).vaddr ≤ s.vaddr
within_more s t ts n h p zero d l = h
within_more s t ts n h p (suc k) d l = p k d (omega arith)

place_by : (s t : Segment) (ts : List Segment) (b : Bool) → ltb s.vaddr t.vaddr ≡ b → InsertionPlace s ts → InsertionPlace s (t ∷ ts)
place_by s t ts true e r = record { at = 0; bound = omega arith; is = rw e refl; within = λ k d l. absurd (omega arith); beyond = λ d l. ltb-true _ _ e }
place_by s t ts false e r = record {
  at = suc r.at;
  bound = let b = r.bound in omega arith;
  is = rw e (ap (λ (ys : List Segment). t ∷ ys) r.is);
  within = within_more s t ts r.at (ltb-false _ _ e) r.within;
  beyond = λ d l. r.beyond d (omega arith);
}

pub place : (s : Segment) (xs : List Segment) → InsertionPlace s xs
place s [] = record { at = 0; bound = omega arith; is = refl; within = λ k d l. absurd (omega arith); beyond = λ d l. absurd (omega arith) }
place s (t ∷ ts) = place_by s t ts (ltb s.vaddr t.vaddr) refl (place s ts)

before_it : (s t : Segment) → 0 < s.memsz → t.vaddr ≤ s.vaddr → Beside s t → t.vaddr + t.memsz ≤ s.vaddr
unfolding Beside
before_it s t m l b = elim b [ inl h ↦ absurd (omega arith) | inr h ↦ h ]

after_it : (s t : Segment) → 0 < t.memsz → s.vaddr < t.vaddr → Beside s t → s.vaddr + s.memsz ≤ t.vaddr
unfolding Beside
after_it s t m l b = elim b [ inl h ↦ h | inr h ↦ absurd (omega arith) ]

insert_apart : (s : Segment) (xs : List Segment) (p : InsertionPlace s xs) → AreKeptSegments xs → IsKeptSegment s → ((k : ℕ) (d : Segment) → k < length xs → Beside s (get_or xs k d)) → AreKeptSegments (insert xs p.at s)
insert_apart s xs p kept one beside =
    let n = length-insert xs p.at s p.bound in
    let pb = p.bound in
    let some = one.some in
    record {
      apart = λ j k d jk lk.
          elim (was s xs p.at j d pb) [
            | low a e ↦ elim (was s xs p.at k d pb) [
              | low a' e' ↦ let r = kept.apart j k d jk (omega arith) in rw (e, e') r
              | new a' e' ↦ rw (e, e') (before_it s (get_or xs j d) some (p.within j d a) (beside j d (omega arith)))
              | high m a' b' e' ↦ let r = kept.apart j m d (omega arith) (omega arith) in rw (e, e') r
            ]
            | new a e ↦ elim (was s xs p.at k d pb) [
              | low a' e' ↦ absurd (omega arith)
              | new a' e' ↦ absurd (omega arith)
              | high m a' b' e' ↦
                  let lm : m < length xs = omega arith in
                  let up = ascend xs kept p.at m d b' lm in
                  let by = p.beyond d (omega arith) in
                  let z = (kept.each m d lm).some in
                  rw (e, e') (after_it s (get_or xs m d) z (omega arith) (beside m d lm))
            ]
            | high o a f e ↦ elim (was s xs p.at k d pb) [
              | low a' e' ↦ absurd (omega arith)
              | new a' e' ↦ absurd (omega arith)
              | high m a' b' e' ↦ let r = kept.apart o m d (omega arith) (omega arith) in rw (e, e') r
            ]
          ];
      each = λ k d lk.
          elim (was s xs p.at k d pb) [
            | low a e ↦ rw e (kept.each k d (omega arith))
            | new a e ↦ rw e one
            | high m a b e ↦ rw e (kept.each m d (omega arith))
          ];
    }

grows : (file : List ℕ) (s : Segment) (xs : List Segment) → AreSegments file xs → IsKeptSegment s → (0 < s.filesz → s.offset + s.filesz ≤ length file) → ((k : ℕ) (d : Segment) → k < length xs → Beside s (get_or xs k d)) → AreSegments file (by_address s xs)
grows file s xs segs one dumped beside =
    let p = place s xs in
    let n = length-insert xs p.at s p.bound in
    let made : AreSegments file (insert xs p.at s) = record {
      kept = insert_apart s xs p segs.kept one beside;
      dumped = λ k d lk.
          elim (was s xs p.at k d p.bound) [
            | low a e ↦ rw e (segs.dumped k d (let b = p.bound in omega arith))
            | new a e ↦ rw e dumped
            | high m a b e ↦ rw e (segs.dumped m d (omega arith))
          ];
    } in
    subst (AreSegments file) (sym p.is) made

-- what shares no address with the headers is beside the segments
Linked : List Header → List Segment → Type 0
Linked before acc = (h : Header) → 0 < h.memsz → list_any (λ g. is_load g && share_address g h) before ≡ false → (k : ℕ) (d : Segment) → k < length acc → Beside (segment_of h) (get_or acc k d)

apart_by_test : (g h : Header) → 0 < g.memsz → 0 < h.memsz → share_address g h ≡ false → Beside (segment_of h) (segment_of g)
unfolding Beside
apart_by_test g h p q e =
    let f = ltb-false (max g.vaddr h.vaddr) (min (g.vaddr + g.memsz) (h.vaddr + h.memsz)) e in
    elim (cases_lt g.vaddr (h.vaddr + h.memsz)) [
      | inr l ↦ inl l
      | inl l ↦ inr (omega arith)
    ]

link_same : (before : List Header) (h : Header) (acc : List Segment) → Linked before acc → Linked (before ++ h ∷ []) acc
unfolding Linked
link_same before h acc link g m any = link g m (or_parts _ _ (sym (list_any-append (λ (x : Header). is_load x && share_address x g) before (h ∷ [])) ∙ any)).0

link_more : (before : List Header) (h : Header) (acc : List Segment) → is_load h ≡ true → 0 < h.memsz → Linked before acc → Linked (before ++ h ∷ []) (by_address (segment_of h) acc)
unfolding Linked
link_more before h acc l m link g mg any k d lk =
    let parts = or_parts _ _ (sym (list_any-append (λ (x : Header). is_load x && share_address x g) before (h ∷ [])) ∙ any) in
    let test = (or_parts (is_load h && share_address h g) false parts.1).0 in
    let test' : share_address h g ≡ false = rw l at test in
    let s = segment_of h in
    let p = place s acc in
    let n = length-insert acc p.at s p.bound in
    let lk' : k < length (insert acc p.at s) = rw p.is at lk in
    let here : Beside (segment_of g) (get_or (insert acc p.at s) k d) =
    elim (was s acc p.at k d p.bound) [
      | low a e ↦ rw e (link g mg parts.0 k d (let b = p.bound in omega arith))
      | new a e ↦ rw e (apart_by_test h g m mg test')
      | high o a b e ↦ rw e (link g mg parts.0 o d (omega arith))
    ] in
    subst (λ (xs : List Segment). Beside (segment_of g) (get_or xs k d)) (sym p.is) here

step : (file : List ℕ) (before : List Header) (i : ℕ) (h : Header) (rest : List Header) (acc : List Segment) (b : Bool) → has_addresses h ≡ b → AreSegments file acc → Linked before acc → header_fault file before i h ≡ None
    → ((acc' : List Segment) → AreSegments file acc' → Linked (before ++ h ∷ []) acc' → AreSegments file (ascending acc' (map segment_of (filter has_addresses rest))))
    → AreSegments file (ascending acc (map segment_of (filter has_addresses (h ∷ rest))))
unfolding Linked
step file before i h rest acc false e segs link ok rec = rw e (rec acc segs (link_same before h acc link))
step file before i h rest acc true e segs link ok rec =
    let t = and_parts _ _ e in
    let m = ltb-true _ _ t.1 in
    let f = fine file before i h t.0 ok in
    rw e (rec (by_address (segment_of h) acc) (grows file (segment_of h) acc segs (record { some = m; sizes = f.sizes; high = f.high }) f.dumped (link h m f.apart)) (link_more before h acc t.0 m link))

keeps : (file : List ℕ) (hs before : List Header) (i : ℕ) (acc : List Segment) → AreSegments file acc → Linked before acc → faults_from file before i hs ≡ None → AreSegments file (ascending acc (map segment_of (filter has_addresses hs)))
keeps file [] before i acc segs link e = segs
keeps file (h ∷ hs) before i acc segs link e =
    let p = no_first _ _ e in
    step file before i h hs acc (has_addresses h) refl segs link p.0 (λ acc' segs' link'. keeps file hs (before ++ h ∷ []) (i + 1) acc' segs' link' p.1)

-- the segments of headers without a fault
pub accepted : (file : List ℕ) (hs : List Header) → faults_from file [] 0 hs ≡ None → AreSegments file (ascending [] (map segment_of (filter has_addresses hs)))
unfolding Linked
accepted file hs e =
    keeps file hs [] 0 []
    (record { kept = record { apart = λ j k d l m. absurd (omega arith); each = λ k d l. absurd (omega arith) }; dumped = λ k d l. absurd (omega arith) })
    (λ h m any k d l. absurd (omega arith)) e

-- the parts of notes
part_in : (file : List ℕ) (before : List Header) (i : ℕ) (h : Header) → is_note h ≡ true → header_fault file before i h ≡ None → 0 < h.filesz → h.offset + h.filesz ≤ length file
unfolding header_fault
part_in file before i h l e p =
    let r = four ((is_load h || is_note h) && ltb 0 h.filesz && ltb (length file) (h.offset + h.filesz)) (is_load h && ltb h.memsz h.filesz) (is_load h && ltb (2 ^ 64 - 1) (h.vaddr + h.memsz)) (is_load h && list_any (λ g. is_load g && share_address g h) before) (Truncated i) (SizeOrder i) (Wrap i) (Overlap i) e in
    let t : (is_load h || is_note h) ≡ true = or_right _ _ l in
    let a : (ltb 0 h.filesz && ltb (length file) (h.offset + h.filesz)) ≡ false = rw t at r.0 in
    ltb-false _ _ (rw (lt-ltb 0 h.filesz p) at a)

more_parts : (file : List ℕ) (p : NotePart) (ps : List NotePart) → (0 < p.filesz → p.offset + p.filesz ≤ length file) → AreParts file ps → AreParts file (p ∷ ps)
more_parts file p ps one rest zero d l = one
more_parts file p ps one rest (suc k) d l = rest k d (omega arith)

parts_step : (file : List ℕ) (before : List Header) (i : ℕ) (h : Header) (hs : List Header) (b : Bool) → is_note h ≡ b → header_fault file before i h ≡ None → AreParts file (map part_of (filter is_note hs)) → AreParts file (map part_of (filter is_note (h ∷ hs)))
parts_step file before i h hs false e ok rest = rw e rest
parts_step file before i h hs true e ok rest = rw e (more_parts file (part_of h) (map part_of (filter is_note hs)) (part_in file before i h e ok) rest)

parts_lie : (file : List ℕ) (hs before : List Header) (i : ℕ) → faults_from file before i hs ≡ None → AreParts file (map part_of (filter is_note hs))
parts_lie file [] before i e = λ k d l. absurd (omega arith)
parts_lie file (h ∷ hs) before i e =
    let p = no_first _ _ e in
    parts_step file before i h hs (is_note h) refl p.0 (parts_lie file hs (before ++ h ∷ []) (i + 1) p.1)

pub parts_accepted : (file : List ℕ) (hs : List Header) → faults_from file [] 0 hs ≡ None → AreParts file (map part_of (filter is_note hs))
parts_accepted file hs e = parts_lie file hs [] 0 e
