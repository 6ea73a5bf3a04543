-- Each report is computed; the lines go by their cases.
use Rattle.std.proofs.Common.{◌≡◌, ℕ, inl, inr, refl, codes, List, [], ◌∷◌, arith}
use Rattle.std.specs.Fmt.{digits}
use Rattle.leak_lemmas.proofs.Lists.{no_cons}
use Rattle.leak_mtrace.specs.Line.{IsLine}
use Rattle.leak_mtrace.specs.Log.{IsGoodLine, IsLog, placed}
use Rattle.leak_mtrace.specs.Number.{IsAddress, IsSize}
use Rattle.leak_blocks.specs.Live.{live_of, replay_of}
use Rattle.leak_growth.specs.Report.{growths_of, report_of}
use Rattle.leak_laws.specs.GrowthRows.{allocated, freed, nothing, one, cut, two, gone, again, odd, others, empty_one, no_caller, no_callers, given_back}
use Rattle.leak_laws.proofs.growth.worked_growths.Goals as goal

at_10100 : IsAddress (codes "0x10100") 0x10100
at_10100 = inr (codes "10100", refl, omega arith, omega arith, refl, refl)

at_10200 : IsAddress (codes "0x10200") 0x10200
at_10200 = inr (codes "10200", refl, omega arith, omega arith, refl, refl)

at_10300 : IsAddress (codes "0x10300") 0x10300
at_10300 = inr (codes "10300", refl, omega arith, omega arith, refl, refl)

of_32 : IsSize (codes "0x20") 32
of_32 = inr (codes "20", refl, omega arith, omega arith, refl, refl)

of_16 : IsSize (codes "0x10") 16
of_16 = inr (codes "10", refl, omega arith, omega arith, refl, refl)

of_8 : IsSize (codes "0x8") 8
of_8 = inr (codes "8", refl, omega arith, omega arith, refl, refl)

-- allocations with a caller, wherever the line begins
a_32 : (at : ℕ) → IsGoodLine (at, codes "@ a:[0x1] + 0x10100 0x20") (placed at (allocated 0x10100 32 (2, 9)))
unfolding IsLine
a_32 at = record {
  is_line = (allocated 0x10100 32 (2, 9), inr (inr (codes "a:[0x1]", codes "+ 0x10100 0x20", refl, (λ e. absurd (no_cons e), refl), (codes "0x10100", codes "0x20", refl, at_10100, of_32), refl)), refl);
  fits = λ p. omega (arith, p.1);
}

a_16 : (at : ℕ) → IsGoodLine (at, codes "@ a:[0x1] + 0x10200 0x10") (placed at (allocated 0x10200 16 (2, 9)))
unfolding IsLine
a_16 at = record {
  is_line = (allocated 0x10200 16 (2, 9), inr (inr (codes "a:[0x1]", codes "+ 0x10200 0x10", refl, (λ e. absurd (no_cons e), refl), (codes "0x10200", codes "0x10", refl, at_10200, of_16), refl)), refl);
  fits = λ p. omega (arith, p.1);
}

a_second : (at : ℕ) → IsGoodLine (at, codes "@ a:[0x1] + 0x10200 0x20") (placed at (allocated 0x10200 32 (2, 9)))
unfolding IsLine
a_second at = record {
  is_line = (allocated 0x10200 32 (2, 9), inr (inr (codes "a:[0x1]", codes "+ 0x10200 0x20", refl, (λ e. absurd (no_cons e), refl), (codes "0x10200", codes "0x20", refl, at_10200, of_32), refl)), refl);
  fits = λ p. omega (arith, p.1);
}

b_32 : (at : ℕ) → IsGoodLine (at, codes "@ b:[0x2] + 0x10100 0x20") (placed at (allocated 0x10100 32 (2, 9)))
unfolding IsLine
b_32 at = record {
  is_line = (allocated 0x10100 32 (2, 9), inr (inr (codes "b:[0x2]", codes "+ 0x10100 0x20", refl, (λ e. absurd (no_cons e), refl), (codes "0x10100", codes "0x20", refl, at_10100, of_32), refl)), refl);
  fits = λ p. omega (arith, p.1);
}

c_0 : (at : ℕ) → IsGoodLine (at, codes "@ c:[0x3] + 0x10300 0") (placed at (allocated 0x10300 0 (2, 9)))
unfolding IsLine
c_0 at = record {
  is_line = (allocated 0x10300 0 (2, 9), inr (inr (codes "c:[0x3]", codes "+ 0x10300 0", refl, (λ e. absurd (no_cons e), refl), (codes "0x10300", codes "0", refl, at_10300, inl (refl, refl)), refl)), refl);
  fits = λ p. omega (arith, p.1);
}

-- lines without a caller
plain_32 : (at : ℕ) → IsGoodLine (at, codes "+ 0x10100 0x20") (allocated 0x10100 32 (0, 0))
unfolding IsLine
plain_32 at = record { is_line = (allocated 0x10100 32 (0, 0), inr (inl ((codes "0x10100", codes "0x20", refl, at_10100, of_32), refl)), refl); fits = λ p. omega (arith, p.1) }

plain_8 : (at : ℕ) → IsGoodLine (at, codes "+ 0x10200 0x8") (allocated 0x10200 8 (0, 0))
unfolding IsLine
plain_8 at = record { is_line = (allocated 0x10200 8 (0, 0), inr (inl ((codes "0x10200", codes "0x8", refl, at_10200, of_8), refl)), refl); fits = λ p. omega (arith, p.1) }

free_10100 : (at : ℕ) → IsGoodLine (at, codes "- 0x10100") (freed 0x10100)
unfolding IsLine
free_10100 at = record { is_line = (freed 0x10100, inr (inl ((codes "0x10100", refl, at_10100, refl), refl)), refl); fits = λ p. omega (arith, p.1) }

free_10200 : (at : ℕ) → IsGoodLine (at, codes "- 0x10200") (freed 0x10200)
unfolding IsLine
free_10200 at = record { is_line = (freed 0x10200, inr (inl ((codes "0x10200", refl, at_10200, refl), refl)), refl); fits = λ p. omega (arith, p.1) }

free_10300 : (at : ℕ) → IsGoodLine (at, codes "- 0x10300") (freed 0x10300)
unfolding IsLine
free_10300 at = record { is_line = (freed 0x10300, inr (inl ((codes "0x10300", refl, at_10300, refl), refl)), refl); fits = λ p. omega (arith, p.1) }

-- ---- the logs

log_nothing : IsLog nothing.bytes nothing.lines
unfolding IsLog
log_nothing = tt

log_one : IsLog one.bytes one.lines
unfolding IsLog
log_one = (a_32 0, tt)

log_cut : IsLog cut.bytes cut.lines
unfolding IsLog
log_cut = (a_32 0, tt)

log_two : IsLog two.bytes two.lines
unfolding IsLog
log_two = (a_32 0, (a_16 25, tt))

log_gone : IsLog gone.bytes gone.lines
unfolding IsLog
log_gone = (a_32 0, (free_10100 25, tt))

log_again : IsLog again.bytes again.lines
unfolding IsLog
log_again = (a_32 0, (free_10100 25, (a_32 35, tt)))

log_odd : IsLog odd.bytes odd.lines
unfolding IsLog
log_odd = (a_32 0, (free_10300 25, (a_32 35, tt)))

log_others : IsLog others.bytes others.lines
unfolding IsLog
log_others = (b_32 0, (a_second 25, tt))

log_empty_one : IsLog empty_one.bytes empty_one.lines
unfolding IsLog
log_empty_one = (b_32 0, (a_second 25, (free_10100 50, (free_10200 60, (c_0 70, tt)))))

log_no_caller : IsLog no_caller.bytes no_caller.lines
unfolding IsLog
log_no_caller = (plain_32 0, tt)

log_no_callers : IsLog no_callers.bytes no_callers.lines
unfolding IsLog
log_no_callers = (plain_32 0, (plain_8 15, tt))

log_given_back : IsLog given_back.bytes given_back.lines
unfolding IsLog
log_given_back = (plain_32 0, (free_10100 15, tt))

-- ---- the reports

pub returns : goal.returns
unfolding digits live_of replay_of growths_of report_of
returns c = record {
  one_more = record { before = log_one; now = log_two; continued = refl; report = refl };
  same_log = record { before = log_one; now = log_one; continued = refl; report = refl };
  block_gone = record { before = log_one; now = log_gone; continued = refl; report = refl };
  same_place = record { before = log_one; now = log_again; continued = refl; report = refl };
  two_gone = record { before = log_others; now = log_empty_one; continued = refl; report = refl };
  all_new = record { before = log_nothing; now = log_one; continued = refl; report = refl };
  no_blocks = record { before = log_nothing; now = log_nothing; continued = refl; report = refl };
  without_caller = record { before = log_no_caller; now = log_no_callers; continued = refl; report = refl };
  cut_line = record { before = log_cut; now = log_two; continued = refl; report = refl };
  odd_log = record { before = log_one; now = log_odd; continued = refl; report = refl };
  other_process = ((given_back.lines, log_given_back), (no_caller.lines, log_no_caller), refl);
}
