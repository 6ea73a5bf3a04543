-- Laws of lines and logs.
use Rattle.std.specs.Prelude.{◌≡◌, ℕ, List, ◌++◌, length, IsTrue}
use Rattle.std.specs.List.{AllZip}
use Rattle.leak_mtrace.specs.declared.line.Line.{Line}
use Rattle.leak_mtrace.specs.declared.error.LogError.{LogError}
use Rattle.leak_mtrace.specs.Line.{IsLine}
use Rattle.leak_mtrace.specs.Log.{IsLog, whole_lines, with_places, IsFirstFault, CallersAreIn, HasItsPlace, is_continued_by}
use Rattle.leak_mtrace.specs.Parts.{AreLinesOf, moved, later_fault}

-- a line says one thing at most
abbrev pub LinesAreOne : Type 0
LinesAreOne = (text : List ℕ) (x y : Line) → IsLine text x → IsLine text y → x ≡ y

-- a log has one list of lines at most
abbrev pub LogsAreOne : Type 0
LogsAreOne = (bytes : List ℕ) (xs ys : List Line) → IsLog bytes xs → IsLog bytes ys → xs ≡ ys

-- a log that has its lines has no first fault
abbrev pub LogsHaveNoFault : Type 0
LogsHaveNoFault = (bytes : List ℕ) (lines : List Line) (e : LogError) → IsLog bytes lines → IsFirstFault bytes e → ⊥

-- a log has one first fault at most
abbrev pub FirstFaultsAreOne : Type 0
FirstFaultsAreOne = (bytes : List ℕ) (e f : LogError) → IsFirstFault bytes e → IsFirstFault bytes f → e ≡ f

-- the callers of a log's lines are ranges of it
abbrev pub LogsHaveTheirCallers : Type 0
LogsHaveTheirCallers = (bytes : List ℕ) (lines : List Line) → IsLog bytes lines → CallersAreIn bytes lines

-- the caller of each line holds the place that the line's text names
abbrev pub CallersHoldTheirPlaces : Type 0
CallersHoldTheirPlaces = (bytes : List ℕ) (lines : List Line) → IsLog bytes lines
    → AllZip (HasItsPlace bytes) (with_places 0 (whole_lines bytes)) lines

-- a log that continues another has its lines, and then its own
abbrev pub LogsContinue : Type 0
LogsContinue = (log1 log2 : List ℕ) (lines1 lines2 : List Line)
    → IsTrue (is_continued_by log1 log2) → IsLog log1 lines1 → IsLog log2 lines2
    → (after : List Line) × (lines2 ≡ lines1 ++ after)

-- a log that begins with complete lines has these, and then those of what follows, moved
abbrev pub LogsJoin : Type 0
LogsJoin = (bytes more : List ℕ) (lines after : List Line)
    → AreLinesOf bytes lines → IsLog more after → IsLog (bytes ++ more) (lines ++ moved (length bytes) after)

-- a log that begins with complete lines has the first fault of what follows, moved
abbrev pub FirstFaultsJoin : Type 0
FirstFaultsJoin = (bytes more : List ℕ) (lines : List Line) (e : LogError)
    → AreLinesOf bytes lines → IsFirstFault more e → IsFirstFault (bytes ++ more) (later_fault (length lines) e)
