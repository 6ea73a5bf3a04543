-- A log that is read line by line: one line more, and the end.
use Rattle.std.proofs.Common.{◌≡◌, ℕ, ◌+◌, arith, List, [], ◌∷◌, ◌++◌, Some, None, take, drop, subst, length-append}
use Rattle.memchr.specs.Find.{IsFirstByte, is_byte}
use Rattle.leak_mtrace.specs.declared.line.Line.{Line}
use Rattle.leak_mtrace.specs.Log.{IsGoodLine, IsPastEnd, LinesFit}
use Rattle.leak_mtrace.specs.Reading.{ReadTo, HasRead, HasReadAll}
use Rattle.leak_mtrace.proofs.LogLemmas.{read_start, read_more, read_lines, read_len}
use Rattle.leak_mtrace.proofs.CallerLemmas.{callers_are_in}

pub none_read : (bytes : List ℕ) → HasRead (record { bytes = bytes; start = 0; count = 0 }) []
none_read bytes = record { before = read_start bytes; counted = omega arith; fit = tt }

fit_more : (lines : List Line) (x : Line) → LinesFit lines → (IsPastEnd x → ⊥) → LinesFit (lines ++ x ∷ [])
fit_more [] x h f = (f, tt)
fit_more (y ∷ lines) x h f = (h.0, fit_more lines x h.1 f)

pub next_read : (bytes text : List ℕ) (start count len : ℕ) (lines : List Line) (x : Line) → HasRead (record { bytes = bytes; start = start; count = count }) lines →
    IsFirstByte (is_byte 10) (drop start bytes) (Some len) → text ≡ take len (drop start bytes) → IsGoodLine (start, text) x →
    HasRead (record { bytes = bytes; start = start + len + 1; count = count + 1 }) (lines ++ x ∷ [])
next_read bytes text start count len lines x h f e g =
    let place : start + (len + 1) ≡ start + len + 1 = omega arith in
    record {
      before = subst (λ (s : ℕ). ReadTo bytes s (lines ++ x ∷ [])) place (read_more bytes text start len lines x h.before f e g);
      counted = omega (arith, h.counted, length-append lines (x ∷ []));
      fit = fit_more lines x h.fit g.fits;
    }

pub all_read : (bytes : List ℕ) (start count : ℕ) (lines : List Line) → HasRead (record { bytes = bytes; start = start; count = count }) lines →
    IsFirstByte (is_byte 10) (drop start bytes) None → HasReadAll (record { bytes = bytes; start = start; count = count }) lines
all_read bytes start count lines h f = record {
  is_log = read_lines bytes start lines h.before f;
  callers = callers_are_in bytes lines (read_lines bytes start lines h.before f);
  whole_len = read_len bytes start lines h.before f;
}
