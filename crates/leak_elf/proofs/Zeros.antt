-- Words that are passed over are 0.
use Rattle.std.proofs.Common.{◌≡◌, ℕ, ◌+◌, ◌-◌, ◌%◌, ◌<◌, ◌≤◌, min, inl, inr, List, ◌++◌, length, get_or, Option, Some, None, IfSome, IsSome, refl, sym, ◌∙◌, subst, arith, eq-eqb}
use Rattle.std.proofs.lemmas.Bool.{cases_eq, cases_lt}
use Rattle.leak_elf.specs.declared.segment.Segment.{Segment}
use Rattle.leak_elf.specs.Head.{aligned_number_at, AreSplit, AreZerosUpTo}
use Rattle.leak_elf.specs.Segments.{AreKeptSegments, IsKeptSegment}
use Rattle.leak_elf.specs.Words.{word_in, AreZeros, IsNextHeld, IsNextReadable, IsPastZeros}
use Rattle.leak_elf.proofs.Held.{word_odd, word_some, no_word_at, get_any, next_in}
use Rattle.leak_elf.proofs.Split.{BeginsAt, word_behind}

no_word : (x : Option ℕ) → x ≡ None → IfSome x (λ word. word ≡ 0)
no_word x e = subst (λ (y : Option ℕ). IfSome y (λ word. word ≡ 0)) (sym e) tt

-- none is passed over
pub no_zeros : (f : ℕ → Option ℕ) (from : ℕ) → AreZeros f from from
no_zeros f from a l u = absurd (omega arith)

-- zeros, and then addresses without words
pub past_zeros : (f : ℕ → Option ℕ) (from later : ℕ) (next : Option ℕ) → from ≤ later → AreZeros f from later → IsNextReadable f later next → IsPastZeros f from next
past_zeros f from later None on zeros none = λ a l. elim (cases_lt a later) [ inl u ↦ zeros a l u | inr m ↦ no_word (f a) (none a m) ]
past_zeros f from later (Some next) on zeros least = (
  omega (arith, on, least.0),
  least.1,
  λ a l u. elim (cases_lt a later) [ inl m ↦ zeros a l m | inr m ↦ no_word (f a) (least.2 a m u) ],
)

-- by default nothing is passed over but addresses without words
pub past_none : (f : ℕ → Option ℕ) (from : ℕ) (next : Option ℕ) → IsNextReadable f from next → IsPastZeros f from next
past_none f from next least = past_zeros f from from next (omega arith) (no_zeros f from) least

-- a word that the rest passes over
zero_word : (held rest : List ℕ) (segs : List Segment) (i : ℕ) (d : Segment) (from at later a : ℕ) → AreSplit held rest segs → i < length segs → BeginsAt (get_or segs i d) from at → length held ≤ at → AreZerosUpTo rest (at - length held) later
    → from ≤ a → a < from + (later - (at - length held)) → a + 8 ≤ (get_or segs i d).vaddr + (get_or segs i d).filesz → a % 8 ≡ 0 → IfSome (word_in (held ++ rest) segs a) (λ word. word ≡ 0)
zero_word held rest segs i d from at later a split l b behind zeros low up high m =
    let s = get_or segs i d in
    let there = s.offset + (a - s.vaddr) in
    let begins : BeginsAt s a there = (omega (arith, b), high, refl) in
    let place : there ≡ at + (a - from) = omega (arith, b) in
    let same : aligned_number_at rest (there - length held) ≡ word_in (held ++ rest) segs a =
    word_behind held rest segs i d a there split m l begins (omega arith) ∙ sym (word_some (held ++ rest) segs a i d split.of_file.kept (eq-eqb _ _ m) l (omega (arith, b)) high) in
    subst (λ (x : Option ℕ). IfSome x (λ word. word ≡ 0)) same (zeros.each (there - length held) (omega arith) (omega arith))

-- the words of a segment, as far as the rest passes over them
pub zeros_passed : (held rest : List ℕ) (segs : List Segment) (n : ℕ) (d : Segment) (from at later to : ℕ) → AreSplit held rest segs → 0 < n → n ≤ length segs → ((k : ℕ) (d : Segment) → k < n → (get_or segs k d).vaddr ≤ from)
    → BeginsAt (get_or segs (n - 1) d) from at → length held ≤ at → AreZerosUpTo rest (at - length held) later → to ≤ (get_or segs (n - 1) d).vaddr + (get_or segs (n - 1) d).filesz
    → min to ((get_or segs (n - 1) d).vaddr + (get_or segs (n - 1) d).filesz - 7) ≤ from + (later - (at - length held)) → AreZeros (word_in (held ++ rest) segs) from to
zeros_passed held rest segs n d from at later to split some le below b behind zeros inside reached a low up =
    let s = get_or segs (n - 1) d in
    let kept = split.of_file.kept in
    elim (cases_eq (a % 8) 0) [
      | inr odd ↦ no_word (word_in (held ++ rest) segs a) (word_odd (held ++ rest) segs a odd)
      | inl m ↦ elim (cases_lt (s.vaddr + s.filesz) (a + 8)) [
        | inr high ↦ zero_word held rest segs (n - 1) d from at later a split (omega arith) b behind zeros low (omega arith) high m
        | inl out ↦ no_word (word_in (held ++ rest) segs a)
            (no_word_at (held ++ rest) segs a n d kept (λ k e l. let v = below k e l in omega arith) le
            (λ k e l u. let r = kept.apart (n - 1) k e (omega arith) u in let z = kept.each (n - 1) e (omega arith) in above k e l u r z) (omega arith))
      ]
    ]
  where
    above : (k : ℕ) (e : Segment) → n ≤ k → k < length segs → (get_or segs (n - 1) e).vaddr + (get_or segs (n - 1) e).memsz ≤ (get_or segs k e).vaddr → IsKeptSegment (get_or segs (n - 1) e) → a < (get_or segs k e).vaddr
    above k e l u r z =
        let same : get_or segs (n - 1) d ≡ get_or segs (n - 1) e = get_any segs (n - 1) d e (omega arith) in
        let top : a < (get_or segs (n - 1) e).vaddr + (get_or segs (n - 1) e).filesz = rw (← same) (omega arith) in
        let sizes = z.sizes in omega arith

-- the address has a word
pub is_there : (file : List ℕ) (segs : List Segment) (i : ℕ) (d : Segment) (a : ℕ) → AreKeptSegments segs → a % 8 ≡ 0 → i < length segs → (get_or segs i d).vaddr ≤ a → a + 8 ≤ (get_or segs i d).vaddr + (get_or segs i d).filesz → IsSome (word_in file segs a)
is_there file segs i d a kept m l low high = rw (word_some file segs a i d kept (eq-eqb _ _ m) l low high) refl

-- the next word after the zeros
pub next_past : (file : List ℕ) (segs : List Segment) (from later : ℕ) (d : Segment) (next : Option ℕ) → AreKeptSegments segs → from ≤ later → AreZeros (word_in file segs) from later → IsNextHeld segs later next → IsPastZeros (word_in file segs) from next
next_past file segs from later d next kept on zeros least = past_zeros (word_in file segs) from later next on zeros (next_in file segs later d next kept least)
