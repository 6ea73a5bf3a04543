-- Which segment holds a word.
use Rattle.std.proofs.Common.{◌≡◌, ℕ, zero, suc, ◌+◌, ◌-◌, ◌<◌, ◌≤◌, ◌*◌, take, drop, ◌%◌, max, Bool, true, false, cond, List, [], ◌∷◌, ◌++◌, length, get_or, find, Option, Some, None, refl, sym, ap, ◌∙◌, arith, inl, inr, eqb, subst}
use Rattle.std.specs.Prelude.{slice_range}
use Rattle.std.specs.Int.{w64, from_le_bytes}
use Rattle.std.proofs.lemmas.List.{drop-take, take-take, drop-drop, length-take}
use Rattle.std.proofs.lemmas.Bool.{ne_eqb, eq-eqb, cases_eq, and_parts, leb-true, le-leb, cases_lt, cases_order}
use Rattle.std.proofs.lemmas.Bool.Decides.{leb_tells}
use Rattle.leak_elf.specs.declared.segment.Segment.{Segment}
use Rattle.leak_elf.specs.Fields.{number_at}
use Rattle.leak_elf.specs.Words.{holds_word, word_in, NoneHeld, IsNextHeld, word_of}
use Rattle.leak_elf.specs.Segments.{IsAscending, AreKeptSegments, segments_of}
use Rattle.leak_elf.specs.Words.{IsNextReadable, IsRun}
use Rattle.leak_elf.proofs.Heads.{number_front}

pub ascend : (segs : List Segment) → AreKeptSegments segs → IsAscending segs
ascend segs kept j k d le lt =
    elim (leb_tells k j) [
      | inl t ↦ let e : j ≡ k = omega arith in rw e (omega arith)
      | inr t ↦ let q = kept.apart j k d (omega arith) lt in omega arith
    ]

find_none : (p : Segment → Bool) (xs : List Segment) → (d : Segment) → ((k : ℕ) → k < length xs → p (get_or xs k d) ≡ false) → find p xs ≡ None
find_none p [] d h = refl
find_none p (x ∷ xs) d h = rw (h 0 (omega arith)) (find_none p xs d (λ k l. h (suc k) (omega arith)))

find_one : (p : Segment → Bool) (xs : List Segment) (i : ℕ) (d : Segment) → i < length xs → p (get_or xs i d) ≡ true → ((k : ℕ) → k < i → p (get_or xs k d) ≡ false) → find p xs ≡ Some (get_or xs i d)
find_one p [] i d l t h = absurd (omega arith)
find_one p (x ∷ xs) zero d l t h = rw t refl
find_one p (x ∷ xs) (suc i) d l t h = rw (h 0 (omega arith)) (find_one p xs i d (omega arith) t (λ k m. h (suc k) (omega arith)))

pub not_held : (a : ℕ) (s : Segment) → (s.vaddr ≤ a → a + 8 ≤ s.vaddr + s.filesz → ⊥) → holds_word a s ≡ false
not_held a s h =
    elim (leb_tells s.vaddr a) [
      | inl t ↦ elim (leb_tells (a + 8) (s.vaddr + s.filesz)) [
        | inl u ↦ absurd (h t.1 u.1)
        | inr u ↦ rw (t.0, u.0) refl
      ]
      | inr t ↦ rw t.0 refl
    ]

pub held : (a : ℕ) (s : Segment) → s.vaddr ≤ a → a + 8 ≤ s.vaddr + s.filesz → holds_word a s ≡ true
held a s l m = rw (le-leb s.vaddr a l, le-leb (a + 8) (s.vaddr + s.filesz) m) refl

pub word_none : (file : List ℕ) (segs : List Segment) (a : ℕ) (d : Segment) → ((k : ℕ) → k < length segs → holds_word a (get_or segs k d) ≡ false) → word_in file segs a ≡ None
unfolding word_in
word_none file segs a d h = rw (find_none (holds_word a) segs d h) (elim (eqb (a % 8) 0) as (λ v. cond {A = Option ℕ} v None None ≡ None) [ true ↦ refl | false ↦ refl ])

pub word_odd : (file : List ℕ) (segs : List Segment) (a : ℕ) → (a % 8 ≡ 0 → ⊥) → word_in file segs a ≡ None
unfolding word_in
word_odd file segs a h = rw (ne_eqb (a % 8) 0 h) refl

pub word_some : (file : List ℕ) (segs : List Segment) (a i : ℕ) (d : Segment) → AreKeptSegments segs → eqb (a % 8) 0 ≡ true → i < length segs → (get_or segs i d).vaddr ≤ a → a + 8 ≤ (get_or segs i d).vaddr + (get_or segs i d).filesz
    → word_in file segs a ≡ Some (number_at w64 file ((get_or segs i d).offset + (a - (get_or segs i d).vaddr)))
unfolding word_in
word_some file segs a i d kept e l low high =
    let f = find_one (holds_word a) segs i d l (held a (get_or segs i d) low high)
    (λ k m. not_held a (get_or segs k d) (λ p q. let r = kept.apart k i d m l in let z = kept.each k d (omega arith) in omega arith)) in
    rw (e, f) refl

-- a word lies in no segment but the last that begins at its address or before it
pub only_last : (segs : List Segment) (a n : ℕ) → AreKeptSegments segs → ((k : ℕ) (d : Segment) → k < n → (get_or segs k d).vaddr ≤ a) → n ≤ length segs → ((k : ℕ) (d : Segment) → n ≤ k → k < length segs → a < (get_or segs k d).vaddr)
    → (k : ℕ) (d : Segment) (b : ℕ) → k + 1 < n → a ≤ b → holds_word b (get_or segs k d) ≡ false
only_last segs a n kept below le above k d b l ab =
    not_held b (get_or segs k d) (λ p q. let r = kept.apart k (k + 1) d (omega arith) (omega arith) in let z = kept.each k d (omega arith) in let w = below (k + 1) d l in omega arith)

-- the last such segment holds no word at the address
pub no_word_at : (file : List ℕ) (segs : List Segment) (a n : ℕ) (d : Segment) → AreKeptSegments segs → ((k : ℕ) (d : Segment) → k < n → (get_or segs k d).vaddr ≤ a) → n ≤ length segs → ((k : ℕ) (d : Segment) → n ≤ k → k < length segs → a < (get_or segs k d).vaddr)
    → (get_or segs (n - 1) d).vaddr + (get_or segs (n - 1) d).filesz - a < 8 → word_in file segs a ≡ None
no_word_at file segs a n d kept below le above short =
    word_none file segs a d (λ k l.
    elim (cases_lt k n) [
      | inr t ↦ not_held a (get_or segs k d) (λ p q. let r = above k d t l in omega arith)
      | inl t ↦ elim (cases_lt (k + 1) n) [
        | inl u ↦ only_last segs a n kept below le above k d a u (omega arith)
        | inr u ↦ let e : k ≡ n - 1 = omega arith in rw e (not_held a (get_or segs (n - 1) d) (λ p q. omega arith))
      ]
    ])

pub get_any : (segs : List Segment) (i : ℕ) (d e : Segment) → i < length segs → get_or segs i d ≡ get_or segs i e
get_any [] i d e l = absurd (omega arith)
get_any (s ∷ ss) zero d e l = refl
get_any (s ∷ ss) (suc i) d e l = get_any ss i d e (omega arith)

-- the first multiple of 8 in the segment, and none before
pub next_at : (segs : List Segment) (from i : ℕ) (d : Segment) (low : ℕ) → AreKeptSegments segs → i < length segs → NoneHeld segs i from → low ≡ max from (get_or segs i d).vaddr
    → (8 - low % 8) % 8 + 8 ≤ (get_or segs i d).vaddr + (get_or segs i d).filesz - low → IsNextHeld segs from (Some (low + (8 - low % 8) % 8))
next_at segs from i d low kept l none e room =
    let s = get_or segs i d in
    let f : from ≤ low = omega arith in
    let v : s.vaddr ≤ low = omega arith in (
      omega arith,
      omega arith,
      (i, l, λ d'. rw (get_any segs i d' d l) (held (low + (8 - low % 8) % 8) s (omega arith) (omega arith))),
      λ k d' a lk fa al m.
          elim (cases_order k i) [
            | inl q ↦ rw (q, get_any segs i d' d l) (not_held a s (λ x y. omega arith))
            | inr q ↦ elim q [
              | inl t ↦ none k d' a t fa m
              | inr t ↦ not_held a (get_or segs k d') (λ x y. let z = kept.apart i k d' t lk in let w = get_any segs i d' d l in let u = kept.each i d l in let j : (get_or segs i d).vaddr + (get_or segs i d).memsz ≤ (get_or segs k d').vaddr = rw (← w) z in omega arith)
            ]
          ],
    )

-- what `find_next` gives is the next readable address
pub next_in : (file : List ℕ) (segs : List Segment) (from : ℕ) (d : Segment) (r : Option ℕ) → AreKeptSegments segs → IsNextHeld segs from r → IsNextReadable (word_in file segs) from r
next_in file segs from d None kept h = λ a f.
    elim (cases_eq (a % 8) 0) [ inl e ↦ word_none file segs a d (λ k l. h k d a l f e) | inr n ↦ word_odd file segs a n ]
next_in file segs from d (Some n) kept h =
    let p = and_parts _ _ (h.2.2 d) in
    let w = word_some file segs n h.2.0 d kept (eq-eqb _ _ h.1) h.2.1 (leb-true _ _ p.0) (leb-true _ _ p.1) in (
      h.0,
      rw w refl,
      λ a f l. elim (cases_eq (a % 8) 0) [ inl e ↦ word_none file segs a d (λ k m. h.3 k d a m f l e) | inr n ↦ word_odd file segs a n ],
    )

pub next_readable : (file : List ℕ) (segs : List Segment) (from : ℕ) (d : Segment) (r : Option ℕ) → segs ≡ segments_of file → AreKeptSegments segs → IsNextHeld segs from r → IsNextReadable (word_of file) from r
unfolding word_of
next_readable file segs from d r e kept h = subst (λ (xs : List Segment). IsNextReadable (word_in file xs) from r) e (next_in file segs from d r kept h)

-- a number in a part of the file
slice_of_slice : (file : List ℕ) (a b k : ℕ) → a + (k + 8) ≤ b → slice_range (slice_range file a b) k (k + 8) ≡ slice_range file (a + k) (a + k + 8)
slice_of_slice file a b k h =
    let m = b - a - k in
    let n = k + 8 - k in
    let e : b - a ≡ k + m = omega arith in
    let w : n ≡ a + k + 8 - (a + k) = omega arith in
    let le : n ≤ m = omega arith in
    ap (λ (j : ℕ). take n (drop k (take j (drop a file)))) e ∙ ap (take {A = ℕ} n) (drop-take k m (drop a file)) ∙ take-take n m (drop k (drop a file)) le
    ∙ ap (take {A = ℕ} n) (drop-drop k a file) ∙ ap (λ (j : ℕ). take j (drop (a + k) file)) w

number_in : (file : List ℕ) (a b k : ℕ) → a + (k + 8) ≤ b → number_at w64 (slice_range file a b) k ≡ number_at w64 file (a + k)
unfolding number_at
number_in file a b k h = ap (from_le_bytes w64) (slice_of_slice file a b k h)

-- the dumped bytes of a segment from an address on, as far as they are held
pub run_at : (held rest : List ℕ) (segs : List Segment) (from i start stop : ℕ) (d : Segment) → AreKeptSegments segs → from % 8 ≡ 0 → i < length segs → (get_or segs i d).vaddr ≤ from → from < (get_or segs i d).vaddr + (get_or segs i d).filesz → start ≡ (get_or segs i d).offset + (from - (get_or segs i d).vaddr)
    → stop ≤ start + ((get_or segs i d).vaddr + (get_or segs i d).filesz - from) → stop ≤ length held → IsRun (word_in (held ++ rest) segs) from (slice_range held start stop)
run_at held rest segs from i start stop d kept e l low high at end in_held k h =
    let s = get_or segs i d in
    let fits : 8 * k + 8 ≤ stop - start = omega (arith, length-take (stop - start) (drop start held)) in
    let w = word_some (held ++ rest) segs (from + 8 * k) i d kept (eq-eqb _ _ (omega arith)) l (omega arith) (omega arith) in
    let place : s.offset + (from + 8 * k - s.vaddr) ≡ start + 8 * k = omega arith in
    let front = number_front w64 held rest (start + 8 * k) (omega arith) in
    w ∙ ap (λ (j : ℕ). Some (number_at w64 (held ++ rest) j)) place ∙ ap (λ (x : ℕ). Some x) (front ∙ sym (number_in held start stop (8 * k) (omega arith)))
