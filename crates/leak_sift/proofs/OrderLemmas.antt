-- Segments are orderly if each that has bytes in the file begins past the last one before it that has.
use Rattle.std.proofs.Common.{◌≡◌, ℕ, ◌+◌, ◌<◌, ◌≤◌, List, length, ◌⊎◌, inl, inr, refl, subst, arith}
use Rattle.leak_elf.specs.declared.segment.Segment.{Segment}
use Rattle.leak_index.proofs.Near.{either}
use Rattle.leak_sift.specs.Places.{AreOrderly, filesz_at, offset_at}

-- the segment with the number has bytes in the file, these
pub record IsLast (segments : List Segment) (offset filesz number : ℕ) : Type 0 where
  pub some : 0 < filesz_at segments number
  pub begin : offset_at segments number ≡ offset
  pub size : filesz_at segments number ≡ filesz

-- the first n segments are orderly, and end where the last of them that has bytes does
pub record AreOrderlyTo (segments : List Segment) (n offset filesz : ℕ) : Type 0 where
  pub apart : (j k : ℕ) → j < k → k < n → 0 < filesz_at segments j → 0 < filesz_at segments k → offset_at segments j + filesz_at segments j ≤ offset_at segments k
  pub end : (j : ℕ) → j < n → 0 < filesz_at segments j → offset_at segments j + filesz_at segments j ≤ offset + filesz
  pub last : (offset + filesz ≡ 0) ⊎ ((number : ℕ) × (number < n) × IsLast segments offset filesz number)

pub orderly_none : (segments : List Segment) → AreOrderlyTo segments 0 0 0
orderly_none segments = record { apart = λ j k h l. absurd (omega arith); end = λ j h. absurd (omega arith); last = inl refl }

module _ (segments : List Segment) (n offset filesz : ℕ) (orderly : AreOrderlyTo segments n offset filesz) where
  -- a segment without bytes
  pub orderly_same : filesz_at segments n ≡ 0 → AreOrderlyTo segments (n + 1) offset filesz
  orderly_same none = record {
    apart = λ j k h l f g. either k n (offset_at segments j + filesz_at segments j ≤ offset_at segments k) (λ before. orderly.apart j k h before f g)
        (λ here. let same : k ≡ n = omega arith in absurd (let some : 0 < filesz_at segments n = subst (λ (i : ℕ). 0 < filesz_at segments i) same g in omega (arith, some, none)));
    end = λ j h f. either j n (offset_at segments j + filesz_at segments j ≤ offset + filesz) (λ before. orderly.end j before f)
        (λ here. let same : j ≡ n = omega arith in absurd (let some : 0 < filesz_at segments n = subst (λ (i : ℕ). 0 < filesz_at segments i) same f in omega (arith, some, none)));
    last = elim orderly.last [ inl none ↦ inl none | inr l ↦ inr (l.0, omega (arith, l.1), l.2) ];
  }

  -- one that begins past the last
  pub orderly_more : 0 < filesz_at segments n → offset + filesz ≤ offset_at segments n → AreOrderlyTo segments (n + 1) (offset_at segments n) (filesz_at segments n)
  orderly_more some past = record {
    apart = λ j k h l f g. either k n (offset_at segments j + filesz_at segments j ≤ offset_at segments k) (λ before. orderly.apart j k h before f g)
        (λ here. let same : n ≡ k = omega arith in subst (λ (i : ℕ). offset_at segments j + filesz_at segments j ≤ offset_at segments i) same (let low = orderly.end j (omega arith) f in omega arith));
    end = λ j h f. either j n (offset_at segments j + filesz_at segments j ≤ offset_at segments n + filesz_at segments n) (λ before. let low = orderly.end j before f in omega arith)
        (λ here. let same : n ≡ j = omega arith in subst (λ (i : ℕ). offset_at segments i + filesz_at segments i ≤ offset_at segments n + filesz_at segments n) same (omega arith));
    last = inr (n, omega arith, record { some = some; begin = refl; size = refl });
  }

  -- one that doesn't
  pub not_orderly : n < length segments → 0 < filesz_at segments n → offset_at segments n < offset + filesz → AreOrderly segments → ⊥
  not_orderly inside some before all =
      elim orderly.last [
        | inl none ↦ omega (arith, none)
        | inr l ↦ let apart = all.apart l.0 n l.1 inside l.2.some some in omega (arith, apart, l.2.begin, l.2.size)
      ]

  pub all_orderly : length segments ≤ n → AreOrderly segments
  all_orderly all = record { apart = λ j k h l f g. orderly.apart j k h (omega arith) f g }
