-- A log that is read line by line.
use Rattle.std.specs.Prelude.{◌≡◌, ℕ, ◌-◌, ◌<◌, ◌≤◌, List, ◌∷◌, [], ◌++◌, length, get_or, drop, Option, Some, None}
use Rattle.std.specs.List.{AllZip}
use Rattle.leak_mtrace.specs.declared.line.Line.{Line}
use Rattle.leak_mtrace.specs.Log.{whole_lines, with_places, whole_len_of, IsGoodLine, IsLog, LinesFit, CallersAreIn}

-- a log, the place where its next line begins, and how many lines come before that place
pub record Reading : Type 0 where
  pub bytes : List ℕ
  pub start : ℕ
  pub count : ℕ

-- the lines before start are these
pub record ReadTo (bytes : List ℕ) (start : ℕ) (lines : List Line) : Type 0 where
  pub done : List (ℕ × List ℕ)
  pub whole : with_places 0 (whole_lines bytes) ≡ done ++ with_places start (whole_lines (drop start bytes))
  pub good : AllZip IsGoodLine done lines
  pub within : start ≤ length bytes
  pub edge : 0 < start → get_or bytes (start - 1) 0 ≡ 10
  pub few : length lines ≤ start

-- the lines that were read so far are these
pub record HasRead (reading : Reading) (lines : List Line) : Type 0 where
  pub before : ReadTo reading.bytes reading.start lines
  pub counted : reading.count ≡ length lines
  pub fit : LinesFit lines

-- the log has these lines, and what follows the place is torn
pub record HasReadAll (reading : Reading) (lines : List Line) : Type 0 where
  pub is_log : IsLog reading.bytes lines
  pub callers : CallersAreIn reading.bytes lines
  pub whole_len : reading.start ≡ whole_len_of reading.bytes

-- the line after these was read, or there is none
abbrev pub IsNextRead : Reading → List Line → Option Line → Type 0
IsNextRead reading lines (Some x) = HasRead reading (lines ++ x ∷ [])
IsNextRead reading lines None = HasReadAll reading lines
