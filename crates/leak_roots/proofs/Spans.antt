-- Spans that are apart, and the places that one of them has.
use Rattle.std.proofs.Common.{◌≡◌, ℕ, zero, suc, ◌+◌, ◌-◌, ◌<◌, ◌≤◌, leb, Bool, true, false, ◌⊎◌, inl, inr, List, [], ◌∷◌, length, get_or, refl, arith}
use Rattle.std.specs.List.{AllByRecursion, list_all, range_with_len}
use Rattle.std.proofs.lemmas.Bool.{leb-true, le-leb, cases_lt}
use Rattle.std.proofs.lemmas.List.Folds.{list_all_at, list_any_at}
use Rattle.std.proofs.lemmas.List.FromFn.{get_or-range_with_len, length-range_with_len}
use Rattle.leak_lemmas.proofs.Bools.{and_right, and_left}
use Rattle.leak_lemmas.proofs.Lists.{any_default}
use Rattle.leak_blocks.specs.declared.small.Span.{Span}
use Rattle.leak_blocks.specs.Small.{AreApart, holds, is_covered}
use Rattle.leak_roots.specs.Roots.{is_inside}

-- ---- ranges that are apart

pub behind_at : (end : ℕ) (spans : List Span) (k : ℕ) (d : Span) → AllByRecursion (λ t. end < t.first) spans → k < length spans → end < (get_or spans k d).first
behind_at end [] k d h l = absurd (omega arith)
behind_at end (s ∷ spans) zero d h l = h.0
behind_at end (s ∷ spans) (suc k) d h l = behind_at end spans k d h.1 (omega arith)

pub apart_at : (spans : List Span) (j k : ℕ) (d : Span) → AreApart spans → j < k → k < length spans → (get_or spans j d).last + 1 < (get_or spans k d).first
apart_at [] j k d h l m = absurd (omega arith)
apart_at (s ∷ spans) j zero d h l m = absurd (omega arith)
apart_at (s ∷ spans) zero (suc k) d h l m = behind_at (s.last + 1) spans k d h.1 (omega arith)
apart_at (s ∷ spans) (suc j) (suc k) d h l m = apart_at spans j k d h.2 (omega arith) (omega arith)

pub span_at : (spans : List Span) (k : ℕ) (d : Span) → AreApart spans → k < length spans → (get_or spans k d).first ≤ (get_or spans k d).last
span_at [] k d h l = absurd (omega arith)
span_at (s ∷ spans) zero d h l = h.0
span_at (s ∷ spans) (suc k) d h l = span_at spans k d h.2 (omega arith)

-- the last addresses ascend
pub lasts_ascend : (spans : List Span) (j k : ℕ) (d : Span) (c : ℕ) → AreApart spans → j ≤ k → k < length spans → (get_or spans k d).last < c → (get_or spans j d).last < c
lasts_ascend spans j k d c apart l h e =
    elim (cases_lt j k) [
      | inl m ↦ let a = apart_at spans j k d apart m h in let s = span_at spans k d apart h in omega arith
      | inr m ↦ let q : j ≡ k = omega arith in rw q e
    ]

pub firsts_ascend : (spans : List Span) (j k : ℕ) (d : Span) → AreApart spans → j ≤ k → k < length spans → (get_or spans j d).first ≤ (get_or spans k d).first
firsts_ascend spans j k d apart l h =
    elim (cases_lt j k) [
      | inl m ↦ let a = apart_at spans j k d apart m h in let s = span_at spans j d apart (omega arith) in omega arith
      | inr m ↦ let q : j ≡ k = omega arith in rw q (omega arith)
    ]

-- this many of the spans end before the address
pub record ArePast (spans : List Span) (many addr : ℕ) : Type 0 where
  pub bound : many ≤ length spans
  pub within : (k : ℕ) (d : Span) → k < many → (get_or spans k d).last < addr

-- one more ends before it
pub past_more : (spans : List Span) (i addr : ℕ) (e : Span) → ArePast spans i addr → i < length spans → (get_or spans i e).last < addr → ArePast spans (i + 1) addr
past_more spans i addr e past h l = record {
  bound = omega arith;
  within = λ k d m. elim (cases_lt k i) [
    | inl q ↦ past.within k d q
    | inr q ↦ let same : k ≡ i = omega arith in rw (same, any_default spans i d e h) l
  ];
}

-- if one doesn't, no later one does
pub later_last : (spans : List Span) (i addr : ℕ) (e : Span) → AreApart spans → addr ≤ (get_or spans i e).last → (k : ℕ) (d : Span) → i ≤ k → k < length spans → addr ≤ (get_or spans k d).last
later_last spans i addr e apart l k d m h =
    let same = any_default spans i e d (omega arith) in
    let f : addr ≤ (get_or spans i d).last = rw (← same) l in
    elim (cases_lt (get_or spans k d).last addr) [
      | inl q ↦ absurd (let a = lasts_ascend spans i k d addr apart m h q in omega arith)
      | inr q ↦ q
    ]

-- if the last of this many does, all do
pub all_past : (spans : List Span) (many addr : ℕ) (e : Span) → AreApart spans → many ≤ length spans → 0 < many → (get_or spans (many - 1) e).last < addr → (k : ℕ) (d : Span) → k < many → (get_or spans k d).last < addr
all_past spans many addr e apart bound some l k d h =
    let same = any_default spans (many - 1) e d (omega arith) in
    lasts_ascend spans k (many - 1) d addr apart (omega arith) (omega arith) (rw (← same) l)

-- ---- one place

-- a span that has the address
record IsHeld (spans : List Span) (d : Span) (a : ℕ) : Type 0 where
  place : ℕ
  within : place < length spans
  low : (get_or spans place d).first ≤ a
  high : a ≤ (get_or spans place d).last

held_more : (spans : List Span) (s d : Span) (a : ℕ) (b : Bool) → holds a s ≡ b → (b ≡ false → IsHeld spans d a) → IsHeld (s ∷ spans) d a
held_more spans s d a true e h = record { place = 0; within = omega arith; low = leb-true s.first a (and_left (leb s.first a) (leb a s.last) e); high = leb-true a s.last (and_right (leb s.first a) (leb a s.last) e) }
held_more spans s d a false e h =
    let r = h refl in
    record { place = suc r.place; within = let w = r.within in omega arith; low = r.low; high = r.high }

held : (spans : List Span) (d : Span) (a : ℕ) → is_covered spans a ≡ true → IsHeld spans d a
unfolding is_covered
held [] d a h = absurd cc
held (s ∷ spans) d a h = held_more spans s d a (holds a s) refl (λ e. held spans d a (rw e at h))

covered_at : (spans : List Span) (k : ℕ) (d : Span) (a : ℕ) → k < length spans → (get_or spans k d).first ≤ a → a ≤ (get_or spans k d).last → is_covered spans a ≡ true
unfolding is_covered
covered_at spans k d a h l m = list_any_at (holds a) spans k d h (rw (le-leb (get_or spans k d).first a l, le-leb a (get_or spans k d).last m) refl)

all_true : (p : ℕ → Bool) (a n : ℕ) → ((x : ℕ) → a ≤ x → x < a + n → p x ≡ true) → list_all p (range_with_len a n) ≡ true
all_true p a zero h = refl
all_true p a (suc n) h = rw (h a (omega arith) (omega arith), all_true p (a + 1) n (λ x l m. h x (omega arith) (omega arith))) refl

-- all bytes of the place are in one span
pub all_inside : (spans : List Span) (k : ℕ) (d : Span) (a : ℕ) → k < length spans → (get_or spans k d).first ≤ a → a + 7 ≤ (get_or spans k d).last → is_inside spans a ≡ true
all_inside spans k d a h l m = all_true (is_covered spans) a 8 (λ x low high. covered_at spans k d x h (omega arith) (omega arith))

one_false : (p : ℕ → Bool) (a x : ℕ) → a ≤ x → x < a + 8 → p x ≡ false → list_all p (range_with_len a 8) ≡ false
one_false p a x l m e =
    list_all_at p (range_with_len a 8) (x - a) 0 (rw (length-range_with_len a 8) (omega arith))
    (rw (get_or-range_with_len a 8 (x - a) 0 (omega arith)) (let s : a + (x - a) ≡ x = omega arith in rw s e))

true_or_false : (b : Bool) → (b ≡ true) ⊎ (b ≡ false)
true_or_false true = inl refl
true_or_false false = inr refl

-- the byte after a span is in none
after_span : (spans : List Span) (j : ℕ) (d : Span) → AreApart spans → j < length spans → is_covered spans ((get_or spans j d).last + 1) ≡ false
after_span spans j d apart h =
    elim (true_or_false (is_covered spans ((get_or spans j d).last + 1))) [
      | inr e ↦ e
      | inl e ↦
          let r = held spans d ((get_or spans j d).last + 1) e in
          let w = r.within in
          let l = r.low in
          let m = r.high in
          absurd (elim (cases_lt r.place j) [
            | inl q ↦ let a = apart_at spans r.place j d apart q h in let s = span_at spans j d apart h in omega arith
            | inr q ↦ elim (cases_lt j r.place) [
              | inl o ↦ let a = apart_at spans j r.place d apart o w in omega arith
              | inr o ↦ let same : r.place ≡ j = omega arith in let n = rw same at m in omega arith
            ]
          ])
    ]

-- the first spans end before the place does, and the others begin after its first byte
pub none_inside : (spans : List Span) (k : ℕ) (d : Span) (a : ℕ) → AreApart spans → ((j : ℕ) → j < k → j < length spans → (get_or spans j d).last < a + 7) → ((j : ℕ) → k ≤ j → j < length spans → a < (get_or spans j d).first) → is_inside spans a ≡ false
none_inside spans k d a apart past later =
    elim (true_or_false (is_covered spans a)) [
      | inr e ↦ one_false (is_covered spans) a a (omega arith) (omega arith) e
      | inl e ↦
          let r = held spans d a e in
          let w = r.within in
          let l = r.low in
          let m = r.high in
          elim (cases_lt r.place k) [
            | inl q ↦ let p = past r.place q w in one_false (is_covered spans) a ((get_or spans r.place d).last + 1) (omega arith) (omega arith) (after_span spans r.place d apart w)
            | inr q ↦ absurd (let b = later r.place q w in omega arith)
          ]
    ]
