-- The lines of worked logs, read by the grammar.
use Rattle.std.proofs.Common.{◌≡◌, ℕ, ◌+◌, ◌^◌, ◌≤◌, inl, inr, refl, codes, List, [], ◌∷◌, ◌++◌, arith}
use Rattle.leak_lemmas.proofs.Lists.{no_cons}
use Rattle.leak_mtrace.specs.declared.line.Kind.{Kind}
use Rattle.leak_mtrace.specs.declared.line.Kind.TheVariants.{Alloc, Free}
use Rattle.leak_mtrace.specs.declared.line.Line.{Line}
use Rattle.leak_mtrace.specs.Line.{IsLine}
use Rattle.leak_mtrace.specs.Log.{IsLog}
use Rattle.leak_examples.specs.Growth.{both_logs, first_log}

abbrev line : Kind → ℕ → ℕ → ℕ × ℕ → Line
line kind addr size caller = record { kind = kind; addr = addr; size = size; caller = caller }

abbrev pub first_lines : List Line
first_lines = line Alloc 0x10100 32 (2, 9) ∷ []

pub first_is : IsLog (first_log) first_lines
unfolding IsLine IsLog
first_is = (
  record {
    is_line = (line Alloc 0x10100 32 (2, 9), inr (inr (codes "a:[0x1]", codes "+ 0x10100 0x20", refl, (λ e. absurd (no_cons e), refl), (codes "0x10100", codes "0x20", refl, inr (codes "10100", refl, omega arith, omega arith, refl, refl), inr (codes "20", refl, omega arith, omega arith, refl, refl)), refl)), refl);
    fits = λ p. absurd (let q : 2 ^ 64 ≤ 0x10100 + 32 = p.1 in omega arith);
  },
  tt,
)

abbrev pub more_lines : List Line
more_lines = line Alloc 0x10100 32 (2, 9) ∷ line Alloc 0x10200 16 (27, 34) ∷ []

pub more_is : IsLog (first_log ++ codes "@ a:[0x1] + 0x10200 0x10\n") more_lines
unfolding IsLine IsLog
more_is = (
  record {
    is_line = (line Alloc 0x10100 32 (2, 9), inr (inr (codes "a:[0x1]", codes "+ 0x10100 0x20", refl, (λ e. absurd (no_cons e), refl), (codes "0x10100", codes "0x20", refl, inr (codes "10100", refl, omega arith, omega arith, refl, refl), inr (codes "20", refl, omega arith, omega arith, refl, refl)), refl)), refl);
    fits = λ p. absurd (let q : 2 ^ 64 ≤ 0x10100 + 32 = p.1 in omega arith);
  },
  (
    record {
      is_line = (line Alloc 0x10200 16 (2, 9), inr (inr (codes "a:[0x1]", codes "+ 0x10200 0x10", refl, (λ e. absurd (no_cons e), refl), (codes "0x10200", codes "0x10", refl, inr (codes "10200", refl, omega arith, omega arith, refl, refl), inr (codes "10", refl, omega arith, omega arith, refl, refl)), refl)), refl);
      fits = λ p. absurd (let q : 2 ^ 64 ≤ 0x10200 + 16 = p.1 in omega arith);
    },
    tt,
  ),
)

abbrev pub less_lines : List Line
less_lines = line Alloc 0x10100 32 (2, 9) ∷ line Free 0x10100 0 (0, 0) ∷ []

pub less_is : IsLog (first_log ++ codes "- 0x10100\n") less_lines
unfolding IsLine IsLog
less_is = (
  record {
    is_line = (line Alloc 0x10100 32 (2, 9), inr (inr (codes "a:[0x1]", codes "+ 0x10100 0x20", refl, (λ e. absurd (no_cons e), refl), (codes "0x10100", codes "0x20", refl, inr (codes "10100", refl, omega arith, omega arith, refl, refl), inr (codes "20", refl, omega arith, omega arith, refl, refl)), refl)), refl);
    fits = λ p. absurd (let q : 2 ^ 64 ≤ 0x10100 + 32 = p.1 in omega arith);
  },
  (
    record {
      is_line = (line Free 0x10100 0 (0, 0), inr (inl ((codes "0x10100", refl, inr (codes "10100", refl, omega arith, omega arith, refl, refl), refl), refl)), refl);
      fits = λ p. absurd (let q : 2 ^ 64 ≤ 0x10100 + 0 = p.1 in omega arith);
    },
    tt,
  ),
)

abbrev pub replaced_lines : List Line
replaced_lines = line Alloc 0x10100 32 (2, 9) ∷ line Free 0x10100 0 (0, 0) ∷ line Alloc 0x10100 32 (37, 44) ∷ []

pub replaced_is : IsLog (first_log ++ codes "- 0x10100\n@ a:[0x1] + 0x10100 0x20\n") replaced_lines
unfolding IsLine IsLog
replaced_is = (
  record {
    is_line = (line Alloc 0x10100 32 (2, 9), inr (inr (codes "a:[0x1]", codes "+ 0x10100 0x20", refl, (λ e. absurd (no_cons e), refl), (codes "0x10100", codes "0x20", refl, inr (codes "10100", refl, omega arith, omega arith, refl, refl), inr (codes "20", refl, omega arith, omega arith, refl, refl)), refl)), refl);
    fits = λ p. absurd (let q : 2 ^ 64 ≤ 0x10100 + 32 = p.1 in omega arith);
  },
  (
    record {
      is_line = (line Free 0x10100 0 (0, 0), inr (inl ((codes "0x10100", refl, inr (codes "10100", refl, omega arith, omega arith, refl, refl), refl), refl)), refl);
      fits = λ p. absurd (let q : 2 ^ 64 ≤ 0x10100 + 0 = p.1 in omega arith);
    },
    (
      record {
        is_line = (line Alloc 0x10100 32 (2, 9), inr (inr (codes "a:[0x1]", codes "+ 0x10100 0x20", refl, (λ e. absurd (no_cons e), refl), (codes "0x10100", codes "0x20", refl, inr (codes "10100", refl, omega arith, omega arith, refl, refl), inr (codes "20", refl, omega arith, omega arith, refl, refl)), refl)), refl);
        fits = λ p. absurd (let q : 2 ^ 64 ≤ 0x10100 + 32 = p.1 in omega arith);
      },
      tt,
    ),
  ),
)

abbrev pub both_lines : List Line
both_lines = line Alloc 0x10100 32 (2, 9) ∷ line Alloc 0x10200 32 (27, 34) ∷ []

pub both_is : IsLog (both_logs) both_lines
unfolding IsLine IsLog
both_is = (
  record {
    is_line = (line Alloc 0x10100 32 (2, 9), inr (inr (codes "b:[0x2]", codes "+ 0x10100 0x20", refl, (λ e. absurd (no_cons e), refl), (codes "0x10100", codes "0x20", refl, inr (codes "10100", refl, omega arith, omega arith, refl, refl), inr (codes "20", refl, omega arith, omega arith, refl, refl)), refl)), refl);
    fits = λ p. absurd (let q : 2 ^ 64 ≤ 0x10100 + 32 = p.1 in omega arith);
  },
  (
    record {
      is_line = (line Alloc 0x10200 32 (2, 9), inr (inr (codes "a:[0x1]", codes "+ 0x10200 0x20", refl, (λ e. absurd (no_cons e), refl), (codes "0x10200", codes "0x20", refl, inr (codes "10200", refl, omega arith, omega arith, refl, refl), inr (codes "20", refl, omega arith, omega arith, refl, refl)), refl)), refl);
      fits = λ p. absurd (let q : 2 ^ 64 ≤ 0x10200 + 32 = p.1 in omega arith);
    },
    tt,
  ),
)

abbrev pub ranked_lines : List Line
ranked_lines = line Alloc 0x10100 32 (2, 9) ∷ line Alloc 0x10200 32 (27, 34) ∷ line Free 0x10100 0 (0, 0) ∷ line Free 0x10200 0 (0, 0) ∷ line Alloc 0x10300 0 (72, 79) ∷ []

pub ranked_is : IsLog (both_logs ++ codes "- 0x10100\n- 0x10200\n@ c:[0x3] + 0x10300 0\n") ranked_lines
unfolding IsLine IsLog
ranked_is = (
  record {
    is_line = (line Alloc 0x10100 32 (2, 9), inr (inr (codes "b:[0x2]", codes "+ 0x10100 0x20", refl, (λ e. absurd (no_cons e), refl), (codes "0x10100", codes "0x20", refl, inr (codes "10100", refl, omega arith, omega arith, refl, refl), inr (codes "20", refl, omega arith, omega arith, refl, refl)), refl)), refl);
    fits = λ p. absurd (let q : 2 ^ 64 ≤ 0x10100 + 32 = p.1 in omega arith);
  },
  (
    record {
      is_line = (line Alloc 0x10200 32 (2, 9), inr (inr (codes "a:[0x1]", codes "+ 0x10200 0x20", refl, (λ e. absurd (no_cons e), refl), (codes "0x10200", codes "0x20", refl, inr (codes "10200", refl, omega arith, omega arith, refl, refl), inr (codes "20", refl, omega arith, omega arith, refl, refl)), refl)), refl);
      fits = λ p. absurd (let q : 2 ^ 64 ≤ 0x10200 + 32 = p.1 in omega arith);
    },
    (
      record {
        is_line = (line Free 0x10100 0 (0, 0), inr (inl ((codes "0x10100", refl, inr (codes "10100", refl, omega arith, omega arith, refl, refl), refl), refl)), refl);
        fits = λ p. absurd (let q : 2 ^ 64 ≤ 0x10100 + 0 = p.1 in omega arith);
      },
      (
        record {
          is_line = (line Free 0x10200 0 (0, 0), inr (inl ((codes "0x10200", refl, inr (codes "10200", refl, omega arith, omega arith, refl, refl), refl), refl)), refl);
          fits = λ p. absurd (let q : 2 ^ 64 ≤ 0x10200 + 0 = p.1 in omega arith);
        },
        (
          record {
            is_line = (line Alloc 0x10300 0 (2, 9), inr (inr (codes "c:[0x3]", codes "+ 0x10300 0", refl, (λ e. absurd (no_cons e), refl), (codes "0x10300", codes "0", refl, inr (codes "10300", refl, omega arith, omega arith, refl, refl), inl (refl, refl)), refl)), refl);
            fits = λ p. absurd (let q : 2 ^ 64 ≤ 0x10300 + 0 = p.1 in omega arith);
          },
          tt,
        ),
      ),
    ),
  ),
)

abbrev pub longer_lines : List Line
longer_lines = line Alloc 0x10100 32 (0, 0) ∷ line Free 0x10100 0 (0, 0) ∷ []

pub longer_is : IsLog (codes "+ 0x10100 0x20\n- 0x10100\n") longer_lines
unfolding IsLine IsLog
longer_is = (
  record {
    is_line = (line Alloc 0x10100 32 (0, 0), inr (inl ((codes "0x10100", codes "0x20", refl, inr (codes "10100", refl, omega arith, omega arith, refl, refl), inr (codes "20", refl, omega arith, omega arith, refl, refl)), refl)), refl);
    fits = λ p. absurd (let q : 2 ^ 64 ≤ 0x10100 + 32 = p.1 in omega arith);
  },
  (
    record {
      is_line = (line Free 0x10100 0 (0, 0), inr (inl ((codes "0x10100", refl, inr (codes "10100", refl, omega arith, omega arith, refl, refl), refl), refl)), refl);
      fits = λ p. absurd (let q : 2 ^ 64 ≤ 0x10100 + 0 = p.1 in omega arith);
    },
    tt,
  ),
)

abbrev pub shorter_lines : List Line
shorter_lines = line Alloc 0x10100 32 (0, 0) ∷ []

pub shorter_is : IsLog (codes "+ 0x10100 0x20\n") shorter_lines
unfolding IsLine IsLog
shorter_is = (
  record {
    is_line = (line Alloc 0x10100 32 (0, 0), inr (inl ((codes "0x10100", codes "0x20", refl, inr (codes "10100", refl, omega arith, omega arith, refl, refl), inr (codes "20", refl, omega arith, omega arith, refl, refl)), refl)), refl);
    fits = λ p. absurd (let q : 2 ^ 64 ≤ 0x10100 + 32 = p.1 in omega arith);
  },
  tt,
)
