-- A log of which a part was read: complete lines, and the bytes behind them.
use Rattle.std.specs.Prelude.{◌≡◌, ℕ, ◌+◌, ◌<◌, ◌≤◌, List, length, map}
use Rattle.leak_mtrace.specs.declared.line.Line.{Line}
use Rattle.leak_mtrace.specs.declared.error.LogError.{LogError}
use Rattle.leak_mtrace.specs.declared.error.LogError.TheVariants.{BadLine, Extent, NoMemory}
use Rattle.leak_mtrace.specs.Log.{whole_len_of, placed, IsLog}

-- the bytes are complete lines, which are these
pub record AreLinesOf (bytes : List ℕ) (lines : List Line) : Type 0 where
  pub whole : whole_len_of bytes ≡ length bytes
  pub is_log : IsLog bytes lines

-- the lines, with so many bytes more before them
abbrev pub moved : ℕ → List Line → List Line
moved n lines = map (placed n) lines

-- the fault, with so many lines more before it
abbrev pub later_fault : ℕ → LogError → LogError
later_fault n (BadLine k) = BadLine (n + k)
later_fault n (Extent k) = Extent (n + k)
later_fault n NoMemory = NoMemory

-- the line's caller is a range of so many bytes behind so many others, or names no place
pub record IsCallerBehind (n len : ℕ) (x : Line) : Type 0 where
  pub order : x.caller.0 ≤ x.caller.1
  pub within : x.caller.1 ≤ n + len
  pub from : x.caller.0 < x.caller.1 → n ≤ x.caller.0
