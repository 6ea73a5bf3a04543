-- The lines of worked logs, read by the grammar.
use Rattle.std.proofs.Common.{◌≡◌, ℕ, ◌+◌, ◌^◌, ◌≤◌, inl, inr, refl, codes, List, [], ◌∷◌, arith}
use Rattle.leak_lemmas.proofs.Lists.{no_cons}
use Rattle.leak_mtrace.specs.declared.line.Kind.{Kind}
use Rattle.leak_mtrace.specs.declared.line.Kind.TheVariants.{Alloc, Free}
use Rattle.leak_mtrace.specs.declared.line.Line.{Line}
use Rattle.leak_mtrace.specs.Line.{IsLine}
use Rattle.leak_mtrace.specs.Log.{IsLog}
use Rattle.leak_examples.specs.Searches.{freed_log, two_log}
use Rattle.leak_examples.specs.Holding.{caller_log, earlier_log}

abbrev line : Kind → ℕ → ℕ → ℕ × ℕ → Line
line kind addr size caller = record { kind = kind; addr = addr; size = size; caller = caller }

abbrev pub two_lines : List Line
two_lines = line Alloc 0x10010 8 (2, 9) ∷ line Alloc 0x10020 8 (0, 0) ∷ []

pub two_is : IsLog (two_log) two_lines
unfolding IsLine IsLog
two_is = (
  record {
    is_line = (line Alloc 0x10010 8 (2, 9), inr (inr (codes "a:[0x1]", codes "+ 0x10010 0x8", refl, (λ e. absurd (no_cons e), refl), (codes "0x10010", codes "0x8", refl, inr (codes "10010", refl, omega arith, omega arith, refl, refl), inr (codes "8", refl, omega arith, omega arith, refl, refl)), refl)), refl);
    fits = λ p. absurd (let q : 2 ^ 64 ≤ 0x10010 + 8 = p.1 in omega arith);
  },
  (
    record {
      is_line = (line Alloc 0x10020 8 (0, 0), inr (inl ((codes "0x10020", codes "0x8", refl, inr (codes "10020", refl, omega arith, omega arith, refl, refl), inr (codes "8", refl, omega arith, omega arith, refl, refl)), refl)), refl);
      fits = λ p. absurd (let q : 2 ^ 64 ≤ 0x10020 + 8 = p.1 in omega arith);
    },
    tt,
  ),
)

abbrev pub freed_lines : List Line
freed_lines = line Alloc 0x10010 8 (0, 0) ∷ line Alloc 0x10000 16 (0, 0) ∷ line Free 0x10000 0 (0, 0) ∷ []

pub freed_is : IsLog (freed_log) freed_lines
unfolding IsLine IsLog
freed_is = (
  record {
    is_line = (line Alloc 0x10010 8 (0, 0), inr (inl ((codes "0x10010", codes "0x8", refl, inr (codes "10010", refl, omega arith, omega arith, refl, refl), inr (codes "8", refl, omega arith, omega arith, refl, refl)), refl)), refl);
    fits = λ p. absurd (let q : 2 ^ 64 ≤ 0x10010 + 8 = p.1 in omega arith);
  },
  (
    record {
      is_line = (line Alloc 0x10000 16 (0, 0), inr (inl ((codes "0x10000", codes "0x10", refl, inr (codes "10000", refl, omega arith, omega arith, refl, refl), inr (codes "10", refl, omega arith, omega arith, refl, refl)), refl)), refl);
      fits = λ p. absurd (let q : 2 ^ 64 ≤ 0x10000 + 16 = p.1 in omega arith);
    },
    (
      record {
        is_line = (line Free 0x10000 0 (0, 0), inr (inl ((codes "0x10000", refl, inr (codes "10000", refl, omega arith, omega arith, refl, refl), refl), refl)), refl);
        fits = λ p. absurd (let q : 2 ^ 64 ≤ 0x10000 + 0 = p.1 in omega arith);
      },
      tt,
    ),
  ),
)

abbrev pub caller_lines : List Line
caller_lines = line Alloc 0x10010 8 (2, 9) ∷ line Alloc 0x10020 8 (26, 33) ∷ []

pub caller_is : IsLog (caller_log) caller_lines
unfolding IsLine IsLog
caller_is = (
  record {
    is_line = (line Alloc 0x10010 8 (2, 9), inr (inr (codes "a:[0x1]", codes "+ 0x10010 0x8", refl, (λ e. absurd (no_cons e), refl), (codes "0x10010", codes "0x8", refl, inr (codes "10010", refl, omega arith, omega arith, refl, refl), inr (codes "8", refl, omega arith, omega arith, refl, refl)), refl)), refl);
    fits = λ p. absurd (let q : 2 ^ 64 ≤ 0x10010 + 8 = p.1 in omega arith);
  },
  (
    record {
      is_line = (line Alloc 0x10020 8 (2, 9), inr (inr (codes "b:[0x2]", codes "+ 0x10020 0x8", refl, (λ e. absurd (no_cons e), refl), (codes "0x10020", codes "0x8", refl, inr (codes "10020", refl, omega arith, omega arith, refl, refl), inr (codes "8", refl, omega arith, omega arith, refl, refl)), refl)), refl);
      fits = λ p. absurd (let q : 2 ^ 64 ≤ 0x10020 + 8 = p.1 in omega arith);
    },
    tt,
  ),
)

abbrev pub earlier_lines : List Line
earlier_lines = line Alloc 0x10010 8 (2, 9) ∷ []

pub earlier_is : IsLog (earlier_log) earlier_lines
unfolding IsLine IsLog
earlier_is = (
  record {
    is_line = (line Alloc 0x10010 8 (2, 9), inr (inr (codes "a:[0x1]", codes "+ 0x10010 0x8", refl, (λ e. absurd (no_cons e), refl), (codes "0x10010", codes "0x8", refl, inr (codes "10010", refl, omega arith, omega arith, refl, refl), inr (codes "8", refl, omega arith, omega arith, refl, refl)), refl)), refl);
    fits = λ p. absurd (let q : 2 ^ 64 ≤ 0x10010 + 8 = p.1 in omega arith);
  },
  tt,
)
