-- The next segment that holds a word.
use Rattle.std.proofs.Common.{◌≡◌, ℕ, zero, suc, ◌+◌, ◌-◌, ◌<◌, ◌≤◌, true, false, List, [], ◌∷◌, length, get_or, set, Option, Some, None, sym, ◌∙◌, arith, inl, inr, true≢false}
use Rattle.std.proofs.lemmas.Bool.{and_parts, leb-true, cases_lt, cases_order}
use Rattle.std.proofs.lemmas.List.{get_or-set_same, get_or-set_other}
use Rattle.std.specs.Option.{is_some}
use Rattle.leak_elf.specs.declared.segment.Segment.{Segment}
use Rattle.leak_elf.specs.Segments.{AreKeptSegments}
use Rattle.leak_elf.specs.Words.{holds_word, NoneHeld, IsNextHeld, IsHolder}
use Rattle.leak_elf.proofs.Held.{get_any, not_held, only_last}

-- the address that a segment alone gives is a word of it
held_alone : (s d : Segment) (k b : ℕ) → k < 1 → holds_word b (get_or (s ∷ []) k d) ≡ true → holds_word b s ≡ true
held_alone s d zero b l h = h
held_alone s d (suc k) b l h = absurd (omega arith)

-- a segment with a word is its own holder
pub holder_here : (segs : List Segment) (i : ℕ) (d : Segment) (r : Option ℕ) → i < length segs → IsNextHeld (get_or segs i d ∷ []) 0 r → is_some r ≡ true → IsHolder segs i i
holder_here segs i d None l h t = absurd (true≢false (sym t))
holder_here segs i d (Some n) l h t = record {
  from_on = omega arith;
  bound = omega arith;
  none = λ k d' a p q e. absurd (omega arith);
  some = λ d' m. (n, h.1, rw (get_any segs i d' d l) (held_alone (get_or segs i d) d h.2.0 n h.2.1 (h.2.2 d)));
}

-- one without a word has the holder of the next segment
pub holder_on : (segs : List Segment) (i j holder : ℕ) (d : Segment) → i < length segs → j ≡ i + 1 → IsNextHeld (get_or segs i d ∷ []) 0 None → IsHolder segs j holder → IsHolder segs i holder
holder_on segs i j holder d l e h next = record {
  from_on = let p = next.from_on in omega arith;
  bound = next.bound;
  none = λ k d' a p q m.
      elim (cases_lt i k) [
        | inl u ↦ next.none k d' a (omega arith) q m
        | inr u ↦ let same : k ≡ i = omega arith in rw (same, get_any segs i d' d l) (h 0 d a (omega arith) (omega arith) m)
      ];
  some = next.some;
}

-- the segment gives nothing
pub gives_none : (s : Segment) (from : ℕ) (r : Option ℕ) → IsNextHeld (s ∷ []) from r → is_some r ≡ false → IsNextHeld (s ∷ []) from None
gives_none s from None h e = h
gives_none s from (Some n) h e = absurd (true≢false e)

-- the table with one more holder, to the front of those that it has
pub holder_set : (segs : List Segment) (hs : List ℕ) (i j holder : ℕ) → i < length hs → j ≡ i + 1 → IsHolder segs i holder → ((k d : ℕ) → j ≤ k → k < length segs → IsHolder segs k (get_or hs k d))
    → (k d : ℕ) → i ≤ k → k < length segs → IsHolder segs k (get_or (set hs i holder) k d)
holder_set segs hs i j holder l e here done k d le lk =
    elim (cases_lt i k) [
      | inl u ↦ rw (get_or-set_other hs i k holder d (λ same. omega (arith, same))) (done k d (omega arith) lk)
      | inr u ↦ let same : k ≡ i = omega arith in rw (same, get_or-set_same hs i holder d l) here
    ]

-- after the last segment there is none
pub holder_end : (segs : List Segment) (n : ℕ) → n ≡ length segs → IsHolder segs n n
holder_end segs n e = record {
  from_on = omega arith;
  bound = omega arith;
  none = λ k d a p q m. absurd (omega arith);
  some = λ d l. absurd (omega arith);
}

-- the segments that begin at the address or before it hold no word from it on
pub none_before : (segs : List Segment) (from n : ℕ) (d : Segment) → AreKeptSegments segs → n ≤ length segs → ((k : ℕ) (d : Segment) → k < n → (get_or segs k d).vaddr ≤ from) → ((k : ℕ) (d : Segment) → n ≤ k → k < length segs → from < (get_or segs k d).vaddr)
    → (0 < n → IsNextHeld (get_or segs (n - 1) d ∷ []) from None) → NoneHeld segs n from
none_before segs from n d kept le below above last k d' a l fa m =
    elim (cases_lt (k + 1) n) [
      | inl u ↦ only_last segs from n kept below le above k d' a u fa
      | inr u ↦ let same : k ≡ n - 1 = omega arith in rw (same, get_any segs (n - 1) d' d (omega arith)) (last (omega arith) 0 d a (omega arith) fa m)
    ]

-- nor do those up to the holder
pub none_until : (segs : List Segment) (from n holder : ℕ) → NoneHeld segs n from → IsHolder segs n holder → NoneHeld segs holder from
none_until segs from n holder none h k d a l fa m =
    elim (cases_lt k n) [
      | inl u ↦ none k d a u fa m
      | inr u ↦ h.none k d a (omega arith) l m
    ]

-- what the first segment with a word gives is the least of all
pub least_of : (segs : List Segment) (from i n : ℕ) (d : Segment) → AreKeptSegments segs → i < length segs → NoneHeld segs i from → IsNextHeld (get_or segs i d ∷ []) from (Some n) → IsNextHeld segs from (Some n)
least_of segs from i n d kept l none h =
    let s = get_or segs i d in
    let here = held_alone s d h.2.0 n h.2.1 (h.2.2 d) in
    let p = and_parts _ _ here in (
      h.0,
      h.1,
      (i, l, λ d'. rw (get_any segs i d' d l) here),
      λ k d' a lk fa al m.
          elim (cases_order k i) [
            | inl q ↦ rw (q, get_any segs i d' d l) (h.3 0 d a (omega arith) fa al m)
            | inr q ↦ elim q [
              | inl t ↦ none k d' a t fa m
              | inr t ↦ not_held a (get_or segs k d') (λ x y.
                  let z = kept.apart i k d' t lk in
                  let w = get_any segs i d' d l in
                  let u = kept.each i d l in
                  let c : n + 8 ≤ s.vaddr + s.filesz = leb-true _ _ p.1 in
                  let f = u.sizes in
                  let j : s.vaddr + s.memsz ≤ (get_or segs k d').vaddr = rw (← w) z in
                  omega arith)
            ]
          ],
    )

-- so does the last segment that begins at the address or before it
pub least_here : (segs : List Segment) (from n : ℕ) (d : Segment) (r : Option ℕ) → AreKeptSegments segs → 0 < n → n ≤ length segs → ((k : ℕ) (d : Segment) → k < n → (get_or segs k d).vaddr ≤ from) → ((k : ℕ) (d : Segment) → n ≤ k → k < length segs → from < (get_or segs k d).vaddr)
    → IsNextHeld (get_or segs (n - 1) d ∷ []) from r → is_some r ≡ true → IsNextHeld segs from r
least_here segs from n d None kept p le below above h t = absurd (true≢false (sym t))
least_here segs from n d (Some x) kept p le below above h t =
    least_of segs from (n - 1) x d kept (omega arith) (λ k d' a l fa m. only_last segs from n kept below le above k d' a (omega arith) fa) h

-- the holder gives a word
pub holder_gives : (segs : List Segment) (from i n : ℕ) (d : Segment) (r : Option ℕ) → AreKeptSegments segs → i < length segs → n ≤ i → from < (get_or segs i d).vaddr → IsHolder segs n i → NoneHeld segs i from → IsNextHeld (get_or segs i d ∷ []) from r → IsNextHeld segs from r
holder_gives segs from i n d None kept l le low holder none h =
    let some = holder.some d l in
    let p = and_parts _ _ some.2 in
    let v : (get_or segs i d).vaddr ≤ some.0 = leb-true _ _ p.0 in
    absurd (true≢false (sym some.2 ∙ h 0 d some.0 (omega arith) (omega arith) some.1))
holder_gives segs from i n d (Some x) kept l le low holder none h = least_of segs from i x d kept l none h
