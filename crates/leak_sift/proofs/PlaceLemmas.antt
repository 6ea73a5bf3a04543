-- The first segment that has a byte at an offset or after it tells where the next bytes lie.
use Rattle.std.proofs.Common.{◌≡◌, ℕ, zero, suc, ◌+◌, ◌-◌, ◌*◌, ◌/◌, ◌<◌, ◌≤◌, min, Bool, true, false, List, [], ◌∷◌, length, slice_index_or, find, Some, None, option_map, refl, sym, ap, subst, ◌∙◌, ◌⊎◌, inl, inr, nat_lt, arith}
use Rattle.std.proofs.lemmas.Bool.{le-leb, le-ltb, lt-ltb}
use Rattle.std.proofs.lemmas.Bool.Decides.{leb_tells}
use Rattle.leak_elf.specs.declared.segment.Segment.{Segment}
use Rattle.leak_elf.specs.Segments.{AreKeptSegments}
use Rattle.leak_index.proofs.Near.{either}
use Rattle.leak_sift.specs.Places.{AreOrderly, has_offset, none, place_of}
use Rattle.leak_sift.specs.Runs.{IsFirstLater, IsReached, IsRunAt, has_later}

ltb_tells : (m n : ℕ) → ((nat_lt m n ≡ true) × (m < n)) ⊎ ((nat_lt m n ≡ false) × (n ≤ m))
ltb_tells m n = either m n (((nat_lt m n ≡ true) × (m < n)) ⊎ ((nat_lt m n ≡ false) × (n ≤ m))) (λ h. inl (lt-ltb m n h, h)) (λ h. inr (le-ltb m n h, h))

-- ---- one segment

pub no_later : (offset : ℕ) (s : Segment) → has_later offset s ≡ false → 0 < s.filesz → s.offset + s.filesz ≤ offset
no_later offset s h some =
    elim (ltb_tells offset (s.offset + s.filesz)) [
      | inl t ↦ absurd (let both : has_later offset s ≡ true = rw (lt-ltb 0 s.filesz some, t.0) refl in let f : false ≡ true = sym h ∙ both in cc)
      | inr t ↦ omega arith
    ]

pub is_later : (offset : ℕ) (s : Segment) → has_later offset s ≡ true → (0 < s.filesz) × (offset < s.offset + s.filesz)
is_later offset s h =
    elim (ltb_tells 0 s.filesz) [
      | inl t ↦ elim (ltb_tells offset (s.offset + s.filesz)) [
        | inl u ↦ (t.1, u.1)
        | inr u ↦ absurd (let f : false ≡ true = sym (rw (t.0, u.0) refl) ∙ h in cc)
      ]
      | inr t ↦ absurd (let f : false ≡ true = sym (rw t.0 refl) ∙ h in cc)
    ]

later_on : (offset more : ℕ) (s : Segment) → offset ≤ more → has_later offset s ≡ false → has_later more s ≡ false
later_on offset more s on h =
    elim (ltb_tells 0 s.filesz) [
      | inl t ↦ elim (ltb_tells more (s.offset + s.filesz)) [
        | inl u ↦ absurd (let low = no_later offset s h t.1 in omega (arith, low, u.1))
        | inr u ↦ rw (t.0, u.0) refl
      ]
      | inr t ↦ rw t.0 refl
    ]

not_in : (offset : ℕ) (s : Segment) → (s.offset ≤ offset → offset < s.offset + s.filesz → ⊥) → has_offset offset s ≡ false
not_in offset s h =
    elim (leb_tells s.offset offset) [
      | inl t ↦ elim (ltb_tells offset (s.offset + s.filesz)) [
        | inl u ↦ absurd (h t.1 u.1)
        | inr u ↦ rw (t.0, u.0) refl
      ]
      | inr t ↦ rw t.0 refl
    ]

is_in : (offset : ℕ) (s : Segment) → s.offset ≤ offset → offset < s.offset + s.filesz → has_offset offset s ≡ true
is_in offset s low high = rw (le-leb s.offset offset low, lt-ltb offset (s.offset + s.filesz) high) refl

-- ---- the first of a list

find_none : (p : Segment → Bool) (xs : List Segment) → ((k : ℕ) → k < length xs → p (slice_index_or xs k none) ≡ false) → find p xs ≡ None
find_none p [] h = refl
find_none p (x ∷ xs) h = rw (h 0 (omega arith)) (find_none p xs (λ k l. h (suc k) (omega arith)))

find_one : (p : Segment → Bool) (xs : List Segment) (i : ℕ) → i < length xs → p (slice_index_or xs i none) ≡ true → ((k : ℕ) → k < i → p (slice_index_or xs k none) ≡ false) → find p xs ≡ Some (slice_index_or xs i none)
find_one p [] i l t h = absurd (omega arith)
find_one p (x ∷ xs) zero l t h = rw t refl
find_one p (x ∷ xs) (suc i) l t h = rw (h 0 (omega arith)) (find_one p xs i (omega arith) t (λ k m. h (suc k) (omega arith)))

no_place : (segments : List Segment) (offset : ℕ) → ((k : ℕ) → k < length segments → has_offset offset (slice_index_or segments k none) ≡ false) → place_of segments offset ≡ None
unfolding place_of
no_place segments offset h = ap (option_map (λ (s : Segment). s.vaddr + (offset - s.offset))) (find_none (has_offset offset) segments h)

one_place : (segments : List Segment) (offset i : ℕ) → i < length segments → has_offset offset (slice_index_or segments i none) ≡ true → ((k : ℕ) → k < i → has_offset offset (slice_index_or segments k none) ≡ false)
    → place_of segments offset ≡ Some ((slice_index_or segments i none).vaddr + (offset - (slice_index_or segments i none).offset))
unfolding place_of
one_place segments offset i l t h = ap (option_map (λ (s : Segment). s.vaddr + (offset - s.offset))) (find_one (has_offset offset) segments i l t h)

-- ---- what was reached

pub reached_on : (segments : List Segment) (offset more count : ℕ) → offset ≤ more → IsReached segments offset count → IsReached segments more count
reached_on segments offset more count on reached = record { bound = reached.bound; each = λ k h. later_on offset more (slice_index_or segments k none) on (reached.each k h) }

pub reached_none : (segments : List Segment) (offset : ℕ) → IsReached segments offset 0
reached_none segments offset = record { bound = omega arith; each = λ k h. absurd (omega arith) }

pub reached_more : (segments : List Segment) (offset count : ℕ) → count < length segments → has_later offset (slice_index_or segments count none) ≡ false → IsReached segments offset count → IsReached segments offset (count + 1)
reached_more segments offset count inside here reached = record {
  bound = omega arith;
  each = λ k h. either k count (has_later offset (slice_index_or segments k none) ≡ false) (reached.each k)
      (λ last. let same : count ≡ k = omega arith in subst (λ (j : ℕ). has_later offset (slice_index_or segments j none) ≡ false) same here);
}

-- ---- runs

module _ (segments : List Segment) (offset number most : ℕ) (kept : AreKeptSegments segments) (orderly : AreOrderly segments) (first : IsFirstLater segments offset number) where
  -- those before the first have no byte from the offset on
  before : (k more : ℕ) → k < number → has_offset (offset + more) (slice_index_or segments k none) ≡ false
  before k more h =
      let s = slice_index_or segments k none in
      not_in (offset + more) s (λ low high. let past = no_later offset s (first.reached.each k h) (omega arith) in omega arith)

  -- and those after it begin where it ends, or later
  behind : (k more : ℕ) → number < k → k < length segments → offset + more < (slice_index_or segments number none).offset + (slice_index_or segments number none).filesz → has_offset (offset + more) (slice_index_or segments k none) ≡ false
  behind k more h l under =
      let s = slice_index_or segments k none in
      let here = is_later offset (slice_index_or segments number none) (first.next (omega arith)) in
      not_in (offset + more) s (λ low high. let apart = orderly.apart number k h l here.0 (omega arith) in omega arith)

  pub run_past : length segments ≤ number → 0 < most → IsRunAt segments offset most (record { words = most; place = None })
  run_past all some = record {
    some = some;
    within = omega arith;
    places = λ k h. no_place segments (offset + 8 * k) (λ j l. before j (8 * k) (omega arith));
    fits = tt;
  }

  pub run_between : number < length segments → 0 < most → (words : ℕ) → offset < (slice_index_or segments number none).offset
      → words ≡ min (((slice_index_or segments number none).offset - offset + 7) / 8) most → IsRunAt segments offset most (record { words = words; place = None })
  run_between inside some words low is = record {
    some = omega arith;
    within = omega arith;
    places = λ k h. no_place segments (offset + 8 * k) (λ j l. either j number (has_offset (offset + 8 * k) (slice_index_or segments j none) ≡ false) (before j (8 * k))
        (λ on. either number j (has_offset (offset + 8 * k) (slice_index_or segments j none) ≡ false)
        (λ past. behind j (8 * k) past l (omega arith))
        (λ same. let one : number ≡ j = omega arith in subst (λ (i : ℕ). has_offset (offset + 8 * k) (slice_index_or segments i none) ≡ false) one
        (not_in (offset + 8 * k) (slice_index_or segments number none) (λ above below. omega arith)))));
    fits = tt;
  }

  pub run_inside : number < length segments → 0 < most → (words : ℕ) → (slice_index_or segments number none).offset ≤ offset
      → words ≡ min (((slice_index_or segments number none).filesz - (offset - (slice_index_or segments number none).offset) + 7) / 8) most
      → IsRunAt segments offset most (record { words = words; place = Some ((slice_index_or segments number none).vaddr + (offset - (slice_index_or segments number none).offset)) })
  run_inside inside some words low is =
      let s = slice_index_or segments number none in
      let here = is_later offset s (first.next inside) in
      let fits = kept.each number none inside in
      record {
        some = omega arith;
        within = omega arith;
        places = λ k h.
            let high : offset + 8 * k < s.offset + s.filesz = omega arith in
            let there : s.vaddr + (offset + 8 * k - s.offset) ≡ s.vaddr + (offset - s.offset) + 8 * k = omega arith in
            one_place segments (offset + 8 * k) number inside (is_in (offset + 8 * k) s (omega arith) high) (λ j l. before j (8 * k) l)
            ∙ ap (λ (n : ℕ). Some n) there;
        fits = omega (arith, fits.sizes, fits.high);
      }
