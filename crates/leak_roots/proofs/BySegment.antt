-- The root words of the segments that have some, one segment after another.
use Rattle.std.proofs.Common.{◌≡◌, ℕ, ◌+◌, ◌-◌, ◌%◌, ◌<◌, ◌≤◌, ◌^◌, Bool, true, false, ◌&&◌, eqb, List, [], ◌∷◌, ◌++◌, length, get_or, take, filter, flat_map, None, is_some, inl, inr, refl, ap, ◌∙◌, append-nil, arith}
use Rattle.std.specs.List.{list_all}
use Rattle.std.proofs.lemmas.Bool.{cases_eq, eq-eqb, ne_eqb}
use Rattle.std.proofs.lemmas.Grind.{flat_map-append}
use Rattle.std.proofs.lemmas.List.{take_more, take_all, get_or_default}
use Rattle.std.proofs.lemmas.List.Elements.{filter-append}
use Rattle.leak_lemmas.proofs.Ranges.{filter_same}
use Rattle.leak_elf.specs.declared.segment.Segment.{Segment}
use Rattle.leak_elf.specs.Headers.{headers}
use Rattle.leak_elf.specs.Refusals.{fault_of, file_fault, faults_from}
use Rattle.leak_elf.specs.Segments.{segments_of, AreKeptSegments, AreSegments}
use Rattle.leak_elf.specs.Words.{places, word_of}
use Rattle.leak_elf.proofs.Accepted.{accepted, no_first}
use Rattle.leak_elf.proofs.Held.{word_some, word_odd}
use Rattle.leak_blocks.specs.declared.block.Block.{Block}
use Rattle.leak_blocks.specs.declared.small.Span.{Span}
use Rattle.leak_blocks.specs.Small.{AreApart}
use Rattle.leak_roots.specs.declared.inside.Kept.{Kept}
use Rattle.leak_roots.specs.Kept.{Adds, FitsBelow}
use Rattle.leak_roots.specs.Roots.{has_roots, is_apart, is_free, outside_places, outside_places_in}
use Rattle.leak_roots.proofs.LeftOut.{HasNone, none_before, adds_none, adds_more, before_later}

-- the segments of an accepted file
pub are_segments : (file : List ℕ) → fault_of file ≡ None → AreSegments file (segments_of file)
unfolding fault_of segments_of
are_segments file ok = accepted file (headers file) (no_first (file_fault file) (faults_from file [] 0 (headers file)) ok).1

-- within a segment the multiples of 8 have words
has_word : (file : List ℕ) (i a : ℕ) (d : Segment) → AreKeptSegments (segments_of file) → i < length (segments_of file) → (get_or (segments_of file) i d).vaddr ≤ a → a + 8 ≤ (get_or (segments_of file) i d).vaddr + (get_or (segments_of file) i d).filesz → is_some (word_of file a) ≡ eqb (a % 8) 0
unfolding word_of
has_word file i a d kept h low high =
    elim (cases_eq (a % 8) 0) [
      | inl e ↦ let t = eq-eqb (a % 8) 0 e in rw (word_some file (segments_of file) a i d kept t h low high, t) refl
      | inr n ↦ rw (word_odd file (segments_of file) a n, ne_eqb (a % 8) 0 n) refl
    ]

places_of_segment : (file : List ℕ) (bs : List Block) (i : ℕ) (d : Segment) → AreKeptSegments (segments_of file) → i < length (segments_of file)
    → outside_places_in file bs (get_or (segments_of file) i d) ≡ filter (is_free bs) (places (get_or (segments_of file) i d).vaddr ((get_or (segments_of file) i d).vaddr + (get_or (segments_of file) i d).filesz))
places_of_segment file bs i d kept h =
    let s = get_or (segments_of file) i d in
    filter_same (λ (a : ℕ). is_some (word_of file a) && list_all (is_apart a) bs) (is_free bs) s.vaddr (s.vaddr + s.filesz - 7 - s.vaddr)
    (λ a l m. ap (λ (b : Bool). b && list_all (is_apart a) bs) (has_word file i a d kept h l (omega arith)))

-- the root words of the first segments were added
pub record AreFound (keeps : ℕ × ℕ → Bool) (u : Bool) (file : List ℕ) (bs : List Block) (i : ℕ) (first kept : Kept) : Type 0 where
  pub end : ℕ
  pub later : (k : ℕ) (d : Segment) → i ≤ k → k < length (segments_of file) → end ≤ (get_or (segments_of file) k d).vaddr
  pub before : (k : ℕ) (d : Segment) → i ≤ k → k < length (segments_of file) → FitsBelow (get_or (segments_of file) k d).vaddr kept
  pub adds : Adds keeps 0 end (flat_map (outside_places_in file bs) (filter (has_roots u) (take i (segments_of file)))) first kept

one_taken : (u : Bool) (file : List ℕ) (bs : List Block) (s : Segment) → has_roots u s ≡ true → flat_map (outside_places_in file bs) (filter (has_roots u) (s ∷ [])) ≡ outside_places_in file bs s
one_taken u file bs s w = rw w (append-nil (outside_places_in file bs s))

one_other : (u : Bool) (file : List ℕ) (bs : List Block) (s : Segment) → has_roots u s ≡ false → flat_map (outside_places_in file bs) (filter (has_roots u) (s ∷ [])) ≡ []
one_other u file bs s w = rw w refl

segment_more : (u : Bool) (file : List ℕ) (bs : List Block) (i : ℕ) (d : Segment) → i < length (segments_of file)
    → flat_map (outside_places_in file bs) (filter (has_roots u) (take (i + 1) (segments_of file)))
    ≡ flat_map (outside_places_in file bs) (filter (has_roots u) (take i (segments_of file))) ++ flat_map (outside_places_in file bs) (filter (has_roots u) (get_or (segments_of file) i d ∷ []))
segment_more u file bs i d h =
    let segs = segments_of file in
    let w = has_roots u in
    ap (λ (xs : List Segment). flat_map (outside_places_in file bs) (filter w xs)) (take_more segs i d h)
    ∙ ap (flat_map (outside_places_in file bs)) (filter-append w (take i segs) (get_or segs i d ∷ []))
    ∙ flat_map-append (outside_places_in file bs) (filter w (take i segs)) (filter w (get_or segs i d ∷ []))

pub found_more : (keeps : ℕ × ℕ → Bool) (u : Bool) (file : List ℕ) (bs : List Block) (i : ℕ) (d : Segment) (first kept more : Kept) → AreKeptSegments (segments_of file) → i < length (segments_of file) → has_roots u (get_or (segments_of file) i d) ≡ true → AreFound keeps u file bs i first kept
    → Adds keeps (get_or (segments_of file) i d).vaddr ((get_or (segments_of file) i d).vaddr + (get_or (segments_of file) i d).filesz) (filter (is_free bs) (places (get_or (segments_of file) i d).vaddr ((get_or (segments_of file) i d).vaddr + (get_or (segments_of file) i d).filesz))) kept more
    → FitsBelow ((get_or (segments_of file) i d).vaddr + (get_or (segments_of file) i d).filesz) more → AreFound keeps u file bs (i + 1) first more
found_more keeps u file bs i d first kept more segs h w found adds' before' =
    let s = get_or (segments_of file) i d in
    record {
      end = s.vaddr + s.filesz;
      later = λ k e l m. behind file i k d e segs (omega arith) m;
      before = λ k e l m. before_later (s.vaddr + s.filesz) (get_or (segments_of file) k e).vaddr more (behind file i k d e segs (omega arith) m) before';
      adds = (rw (segment_more u file bs i d h, one_taken u file bs s w, places_of_segment file bs i d segs h) (let gap = found.later i d (omega arith) h in adds_more keeps 0 found.end s.vaddr (s.vaddr + s.filesz) _ _ first kept more (omega arith) gap (omega arith) found.adds adds'));
    }
  where
    behind : (file : List ℕ) (i k : ℕ) (d e : Segment) → AreKeptSegments (segments_of file) → i < k → k < length (segments_of file) → (get_or (segments_of file) i d).vaddr + (get_or (segments_of file) i d).filesz ≤ (get_or (segments_of file) k e).vaddr
    behind file i k d e kept l m =
        let a = kept.apart i k d l m in
        let s = (kept.each i d (omega arith)).sizes in
        let same = ap (λ (t : Segment). t.vaddr) (get_or_default (segments_of file) k d e m) in
        omega arith

pub found_same : (keeps : ℕ × ℕ → Bool) (u : Bool) (file : List ℕ) (bs : List Block) (i : ℕ) (d : Segment) (first kept : Kept) → i < length (segments_of file) → has_roots u (get_or (segments_of file) i d) ≡ false → AreFound keeps u file bs i first kept → AreFound keeps u file bs (i + 1) first kept
found_same keeps u file bs i d first kept h w found = record {
  end = found.end;
  later = λ k e l m. found.later k e (omega arith) m;
  before = λ k e l m. found.before k e (omega arith) m;
  adds = (rw (segment_more u file bs i d h, one_other u file bs (get_or (segments_of file) i d) w) (adds_more keeps 0 found.end found.end found.end _ _ first kept kept (omega arith) (omega arith) (omega arith) found.adds (adds_none keeps found.end found.end kept)));
}

pub found_first : (keeps : ℕ × ℕ → Bool) (u : Bool) (file : List ℕ) (bs : List Block) (spans : List Span) (first : Kept) → AreApart spans → HasNone spans first → AreFound keeps u file bs 0 first first
found_first keeps u file bs spans first apart none = record {
  end = 0;
  later = λ k d l m. omega arith;
  before = λ k d l m. none_before spans first (get_or (segments_of file) k d).vaddr apart none;
  adds = adds_none keeps 0 0 first;
}

-- the same for the segments as they are read
pub read_more : (keeps : ℕ × ℕ → Bool) (u : Bool) (file : List ℕ) (bs : List Block) (segs : List Segment) (i : ℕ) (d : Segment) (first kept more : Kept) → segs ≡ segments_of file → fault_of file ≡ None → i < length segs → has_roots u (get_or segs i d) ≡ true → AreFound keeps u file bs i first kept
    → Adds keeps (get_or segs i d).vaddr ((get_or segs i d).vaddr + (get_or segs i d).filesz) (filter (is_free bs) (places (get_or segs i d).vaddr ((get_or segs i d).vaddr + (get_or segs i d).filesz))) kept more → FitsBelow ((get_or segs i d).vaddr + (get_or segs i d).filesz) more
    → AreFound keeps u file bs (i + 1) first more
read_more keeps u file bs segs i d first kept more e ok h w found adds' before' =
    found_more keeps u file bs i d first kept more (are_segments file ok).kept (rw e at h) (rw e at w) found (rw e at adds') (rw e at before')

pub read_same : (keeps : ℕ × ℕ → Bool) (u : Bool) (file : List ℕ) (bs : List Block) (segs : List Segment) (i : ℕ) (d : Segment) (first kept : Kept) → segs ≡ segments_of file → i < length segs → has_roots u (get_or segs i d) ≡ false → AreFound keeps u file bs i first kept → AreFound keeps u file bs (i + 1) first kept
read_same keeps u file bs segs i d first kept e h w found = found_same keeps u file bs i d first kept (rw e at h) (rw e at w) found

pub read_all : (keeps : ℕ × ℕ → Bool) (u : Bool) (file : List ℕ) (bs : List Block) (segs : List Segment) (i : ℕ) (first kept : Kept) → segs ≡ segments_of file → length segs ≤ i → (found : AreFound keeps u file bs i first kept) → Adds keeps 0 found.end (outside_places u file bs) first kept
unfolding outside_places
read_all keeps u file bs segs i first kept e h found =
    let all : take i (segments_of file) ≡ segments_of file = take_all i (segments_of file) (rw e at h) in
    rw all at found.adds

pub read_before : (keeps : ℕ × ℕ → Bool) (u : Bool) (file : List ℕ) (bs : List Block) (segs : List Segment) (i : ℕ) (d : Segment) (first kept : Kept) → segs ≡ segments_of file → i < length segs → AreFound keeps u file bs i first kept → FitsBelow (get_or segs i d).vaddr kept
read_before keeps u file bs segs i d first kept e h found = rw e (found.before i d (omega arith) (rw e at h))

pub dumped_fits : (file : List ℕ) (segs : List Segment) (i : ℕ) (d : Segment) → segs ≡ segments_of file → fault_of file ≡ None → i < length segs → (get_or segs i d).vaddr + (get_or segs i d).filesz < 2 ^ 64
dumped_fits file segs i d e ok h =
    let one = (are_segments file ok).kept.each i d (rw e at h) in
    let s = one.sizes in
    let t = one.high in
    let u : (get_or (segments_of file) i d).vaddr + (get_or (segments_of file) i d).filesz < 2 ^ 64 = omega arith in
    rw e u
