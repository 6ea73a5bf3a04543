-- Segments that have an address in common, by neighbors and by the headers that they come from.
use Rattle.std.proofs.Common.{◌≡◌, ℕ, zero, suc, ◌+◌, ◌-◌, ◌<◌, ◌≤◌, max, min, Bool, true, false, cond, ltb, leb, ◌||◌, ◌&&◌, List, [], ◌∷◌, length, get_or, take, refl, sym, ap, ◌∙◌, inl, inr, arith}
use Rattle.std.specs.List.{list_any}
use Rattle.std.proofs.lemmas.Bool.{lt-ltb, le-ltb, ltb-true, ltb-false, leb-false, lt-leb, cases_lt, or_parts}
use Rattle.std.proofs.lemmas.List.Folds.{list_any_at}
use Rattle.leak_elf.specs.declared.header.Header.{Header}
use Rattle.leak_elf.specs.declared.segment.Segment.{Segment}
use Rattle.leak_elf.specs.Headers.{is_load, has_addresses, share_address}
use Rattle.leak_elf.specs.Refusals.{overlaps}
use Rattle.leak_elf.specs.Segments.{shares, any_meet, meet_within, kept_of, by_address, IsAscending, segment_of}
use Rattle.leak_elf.proofs.Kept.{kept_more}
use Rattle.leak_elf.proofs.Meets.{none_any, beside_all, swap_or, or_false, any_by_address, same_overlap}
use Rattle.leak_elf.proofs.PlainWords.{any_sorted, any_false_at, or_true}
use Rattle.leak_elf.proofs.Sorted.{rest_ascends}

-- each kept segment has addresses
none_empty_by : (h : Header) (l m : Bool) → is_load h ≡ l → ltb 0 h.memsz ≡ m → (has_addresses h && leb h.memsz 0) ≡ false
none_empty_by h false m e f = rw e refl
none_empty_by h true false e f = rw (e, f) refl
none_empty_by h true true e f = let p = ltb-true 0 h.memsz f in rw (e, f, lt-leb h.memsz 0 p) refl

none_empty : (hs : List Header) → list_any (λ h. has_addresses h && leb (segment_of h).memsz 0) hs ≡ false
none_empty [] = refl
none_empty (h ∷ hs) = rw (none_empty_by h (is_load h) (ltb 0 h.memsz) refl refl, none_empty hs) refl

pub kept_some : (hs : List Header) (k : ℕ) (d : Segment) → k < length (kept_of hs) → 0 < (get_or (kept_of hs) k d).memsz
kept_some hs k d l = leb-false _ _ (any_false_at (λ s. leb s.memsz 0) (kept_of hs) k d (any_sorted (λ s. leb s.memsz 0) hs ∙ none_empty hs) l)

-- neighbors
abbrev Neighbors : List Segment → Segment → Type 0
Neighbors xs d = (j k : ℕ) → k ≡ j + 1 → k < length xs → (get_or xs j d).vaddr + (get_or xs j d).memsz ≤ (get_or xs k d).vaddr

first_apart : (x : Segment) (xs : List Segment) (d : Segment) → IsAscending (x ∷ xs) → Neighbors (x ∷ xs) d → (k : ℕ) → k < length xs → shares x (get_or xs k d) ≡ false
first_apart x xs d up near k l =
    let one = near 0 (suc zero) (omega arith) (omega arith) in
    let far = up (suc zero) (suc k) d (omega arith) (omega arith) in
    beside_all x (get_or xs k d) (inr (omega arith))

pub none_meet : (xs : List Segment) (d : Segment) → IsAscending xs → Neighbors xs d → any_meet xs ≡ false
none_meet [] d up near = refl
none_meet (x ∷ xs) d up near =
    rw (none_any (shares x) xs d (first_apart x xs d up near), none_meet xs d (rest_ascends x xs up) (λ j k e l. near (suc j) (suc k) (omega arith) (omega arith))) refl

pub meet_at : (xs : List Segment) (j k : ℕ) (d : Segment) → j < k → k < length xs → shares (get_or xs j d) (get_or xs k d) ≡ true → any_meet xs ≡ true
meet_at [] j k d l m e = absurd (omega arith)
meet_at (x ∷ xs) j zero d l m e = absurd (omega arith)
meet_at (x ∷ xs) zero (suc k) d l m e = rw (list_any_at (shares x) xs k d (omega arith) e) refl
meet_at (x ∷ xs) (suc j) (suc k) d l m e = or_true (list_any (shares x) xs) (any_meet xs) (meet_at xs j k d (omega arith) (omega arith) e)

pub share_next : (s t : Segment) → 0 < t.memsz → s.vaddr ≤ t.vaddr → t.vaddr - s.vaddr < s.memsz → shares s t ≡ true
share_next s t p l h = lt-ltb (max t.vaddr s.vaddr) (min (t.vaddr + t.memsz) (s.vaddr + s.memsz)) (omega arith)

-- one more header
shares_sym : (s t : Segment) → shares s t ≡ shares t s
shares_sym s t =
    elim (cases_lt (max t.vaddr s.vaddr) (min (t.vaddr + t.memsz) (s.vaddr + s.memsz))) [
      | inl l ↦ lt-ltb _ _ l ∙ sym (lt-ltb (max s.vaddr t.vaddr) (min (s.vaddr + s.memsz) (t.vaddr + t.memsz)) (omega arith))
      | inr l ↦ le-ltb _ _ l ∙ sym (le-ltb (max s.vaddr t.vaddr) (min (s.vaddr + s.memsz) (t.vaddr + t.memsz)) (omega arith))
    ]

swap_four : (a b c d : Bool) → ((a || b) || (c || d)) ≡ ((a || c) || (b || d))
swap_four true b c d = refl
swap_four false b c d = swap_or b c d

meet_by : (s t : Segment) (ts : List Segment) (b : Bool) → ltb s.vaddr t.vaddr ≡ b → any_meet (by_address s ts) ≡ (list_any (shares s) ts || any_meet ts)
    → any_meet (by_address s (t ∷ ts)) ≡ ((shares s t || list_any (shares s) ts) || (list_any (shares t) ts || any_meet ts))
meet_by s t ts true e ih = rw e refl
meet_by s t ts false e ih =
    rw (e, any_by_address (shares t) s ts, ih, shares_sym t s) (swap_four (shares s t) (list_any (shares t) ts) (list_any (shares s) ts) (any_meet ts))

meet_by_address : (s : Segment) (xs : List Segment) → any_meet (by_address s xs) ≡ (list_any (shares s) xs || any_meet xs)
meet_by_address s [] = refl
meet_by_address s (t ∷ ts) = meet_by s t ts (ltb s.vaddr t.vaddr) refl (meet_by_address s ts)

swap_two : (a b : Bool) → (a || b) ≡ (b || a)
swap_two true true = refl
swap_two true false = refl
swap_two false true = refl
swap_two false false = refl

-- a header without addresses overlaps none
no_overlap : (h : Header) (gs : List Header) → h.memsz ≤ 0 → list_any (λ g. is_load g && share_address g h) gs ≡ false
no_overlap h [] m = refl
no_overlap h (g ∷ gs) m =
    let none : share_address g h ≡ false = le-ltb (max g.vaddr h.vaddr) (min (g.vaddr + g.memsz) (h.vaddr + h.memsz)) (omega arith) in
    rw (none, no_overlap h gs m) (elim (is_load g) as (λ v. (v && false) || false ≡ false) [ true ↦ refl | false ↦ refl ])

step_by : (h : Header) (gs : List Header) (l m : Bool) → is_load h ≡ l → ltb 0 h.memsz ≡ m
    → any_meet (cond (has_addresses h) (by_address (segment_of h) (kept_of gs)) (kept_of gs)) ≡ (any_meet (kept_of gs) || overlaps gs h)
step_by h gs false m e f = rw e (or_false (any_meet (kept_of gs)))
step_by h gs true false e f = rw (e, f, no_overlap h gs (ltb-false 0 h.memsz f)) (or_false (any_meet (kept_of gs)))
step_by h gs true true e f =
    rw (e, f) (meet_by_address (segment_of h) (kept_of gs) ∙ rw (same_overlap h gs) (swap_two (list_any (λ g. is_load g && share_address g h) gs) (any_meet (kept_of gs))))

pub meet_step : (hs : List Header) (k : ℕ) (d : Header) → k < length hs → meet_within hs (k + 1) ≡ (meet_within hs k || overlaps (take k hs) (get_or hs k d))
unfolding meet_within
meet_step hs k d l =
    let h = get_or hs k d in
    ap any_meet (kept_more hs k d l) ∙ step_by h (take k hs) (is_load h) (ltb 0 h.memsz) refl refl

-- if no two of the first headers meet, none overlaps an earlier one
pub all_apart : (hs : List Header) (n : ℕ) (d : Header) → n ≤ length hs → meet_within hs n ≡ false → (k : ℕ) → k < n → overlaps (take k hs) (get_or hs k d) ≡ false
all_apart hs zero d b e k l = absurd (omega arith)
all_apart hs (suc n) d b e k l =
    let more : suc n ≡ n + 1 = omega arith in
    let parts = or_parts (meet_within hs n) (overlaps (take n hs) (get_or hs n d)) (sym (meet_step hs n d (omega arith)) ∙ ap (meet_within hs) (sym more) ∙ e) in
    elim (cases_lt k n) [
      | inl m ↦ all_apart hs n d (omega arith) parts.0 k m
      | inr m ↦ let same : k ≡ n = omega arith in rw same parts.1
    ]

-- the header that brings the first meeting
pub overlap_at : (hs : List Header) (k : ℕ) (d : Header) → k < length hs → meet_within hs k ≡ false → meet_within hs (k + 1) ≡ true → overlaps (take k hs) (get_or hs k d) ≡ true
overlap_at hs k d l apart meets =
    ap (λ (b : Bool). b || overlaps (take k hs) (get_or hs k d)) (sym apart) ∙ (sym (meet_step hs k d l) ∙ meets)

pub none_within : (hs : List Header) → meet_within hs 0 ≡ false
unfolding meet_within
none_within hs = refl

pub some_within : (hs : List Header) (n : ℕ) → meet_within hs n ≡ true → 0 < n
some_within hs zero e = let f = none_within hs in absurd cc
some_within hs (suc n) e = omega arith
