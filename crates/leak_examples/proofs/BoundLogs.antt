-- The lines of the logs on both sides of the bound of small allocations, read by the grammar.
use Rattle.std.proofs.Common.{◌≡◌, ℕ, ◌+◌, ◌^◌, ◌≤◌, inl, inr, refl, codes, List, [], ◌∷◌, arith}
use Rattle.leak_mtrace.specs.declared.line.Kind.{Kind}
use Rattle.leak_mtrace.specs.declared.line.Kind.TheVariants.{Alloc, Free}
use Rattle.leak_mtrace.specs.declared.line.Line.{Line}
use Rattle.leak_mtrace.specs.Line.{IsLine}
use Rattle.leak_mtrace.specs.Log.{IsLog}
use Rattle.leak_examples.specs.Bounds.{mapped_log, small_log}

abbrev line : Kind → ℕ → ℕ → Line
line kind addr size = record { kind = kind; addr = addr; size = size; caller = (0, 0) }

abbrev pub small_lines : List Line
small_lines = line Alloc 0x10000 131071 ∷ line Free 0x10000 0 ∷ line Alloc 0x10010 8 ∷ []

pub small_is : IsLog (small_log) small_lines
unfolding IsLine IsLog
small_is = (
  record {
    is_line = (line Alloc 0x10000 131071, inr (inl ((codes "0x10000", codes "0x1ffff", refl, inr (codes "10000", refl, omega arith, omega arith, refl, refl), inr (codes "1ffff", refl, omega arith, omega arith, refl, refl)), refl)), refl);
    fits = λ p. absurd (let q : 2 ^ 64 ≤ 0x10000 + 131071 = p.1 in omega arith);
  },
  (
    record {
      is_line = (line Free 0x10000 0, inr (inl ((codes "0x10000", refl, inr (codes "10000", refl, omega arith, omega arith, refl, refl), refl), refl)), refl);
      fits = λ p. absurd (let q : 2 ^ 64 ≤ 0x10000 + 0 = p.1 in omega arith);
    },
    (
      record {
        is_line = (line Alloc 0x10010 8, inr (inl ((codes "0x10010", codes "0x8", refl, inr (codes "10010", refl, omega arith, omega arith, refl, refl), inr (codes "8", refl, omega arith, omega arith, refl, refl)), refl)), refl);
        fits = λ p. absurd (let q : 2 ^ 64 ≤ 0x10010 + 8 = p.1 in omega arith);
      },
      tt,
    ),
  ),
)

abbrev pub mapped_lines : List Line
mapped_lines = line Alloc 0x10000 131072 ∷ line Free 0x10000 0 ∷ line Alloc 0x10010 8 ∷ []

pub mapped_is : IsLog (mapped_log) mapped_lines
unfolding IsLine IsLog
mapped_is = (
  record {
    is_line = (line Alloc 0x10000 131072, inr (inl ((codes "0x10000", codes "0x20000", refl, inr (codes "10000", refl, omega arith, omega arith, refl, refl), inr (codes "20000", refl, omega arith, omega arith, refl, refl)), refl)), refl);
    fits = λ p. absurd (let q : 2 ^ 64 ≤ 0x10000 + 131072 = p.1 in omega arith);
  },
  (
    record {
      is_line = (line Free 0x10000 0, inr (inl ((codes "0x10000", refl, inr (codes "10000", refl, omega arith, omega arith, refl, refl), refl), refl)), refl);
      fits = λ p. absurd (let q : 2 ^ 64 ≤ 0x10000 + 0 = p.1 in omega arith);
    },
    (
      record {
        is_line = (line Alloc 0x10010 8, inr (inl ((codes "0x10010", codes "0x8", refl, inr (codes "10010", refl, omega arith, omega arith, refl, refl), inr (codes "8", refl, omega arith, omega arith, refl, refl)), refl)), refl);
        fits = λ p. absurd (let q : 2 ^ 64 ≤ 0x10010 + 8 = p.1 in omega arith);
      },
      tt,
    ),
  ),
)
