-- A replay that goes on over a window of the log: bytes that begin at a place between two lines.
use Rattle.std.specs.Prelude.{◌≡◌, ℕ, ◌+◌, ◌<◌, ◌≤◌, Bool, true, false, List, [], ◌∷◌, ◌++◌, length, take, if◌then◌else◌, Option, Some, None}
use Rattle.leak_mtrace.specs.declared.line.Line.{Line}
use Rattle.leak_mtrace.specs.declared.error.LogError.{LogError}
use Rattle.leak_mtrace.specs.declared.error.LogError.TheVariants.{BadLine, Extent, NoMemory}
use Rattle.leak_mtrace.specs.Log.{Whole, placed, whole_len_of, IsFirstFault}
use Rattle.leak_mtrace.specs.Reading.{Reading, HasRead}
use Rattle.leak_mtrace.specs.Parts.{AreLinesOf, moved, later_fault}
use Rattle.leak_blocks.specs.declared.block.Block.{Block}
use Rattle.leak_blocks.specs.declared.ongoing_replay.OngoingReplay.{OngoingReplay}
use Rattle.leak_blocks.specs.declared.stage.Stage.{Stage}
use Rattle.leak_blocks.specs.declared.window.LogPlace.{LogPlace}
use Rattle.leak_blocks.specs.Live.{is_allocation, block_of}
use Rattle.leak_blocks.specs.Runs.{IsOngoingAfter}

-- the blocks of the allocations that are held
abbrev pub all_blocks : OngoingReplay → List Block
all_blocks ongoing = ongoing.allocated.items

-- those of a replay between two arenas
abbrev pub all_blocks_of : Stage → List Block
all_blocks_of stage = stage.allocated.items

-- the numbers of the allocations that no line so far ends
abbrev pub live_numbers : Stage → List ℕ
live_numbers stage = stage.numbers.items

-- the blocks of the allocations of these lines, of which the first has the number behind this one
abbrev pub allocated_by : ℕ → List Line → List Block
allocated_by n [] = []
allocated_by n (x ∷ xs) = if is_allocation x then block_of (n + 1) x ∷ allocated_by (n + 1) xs else allocated_by (n + 1) xs

-- the blocks, with that of the line of this number behind them if it allocates one
abbrev pub grown_by : ℕ → Line → List Block → List Block
grown_by number x blocks = if is_allocation x then blocks ++ block_of number x ∷ [] else blocks

-- the replay has gone over some of the window's complete lines, and over all of them if there are no more
pub record GoesOn (window : List ℕ) (from to : LogPlace) (more : Bool) (before after : OngoingReplay) : Type 0 where
  pub len : ℕ
  pub lines : List Line
  pub within : len ≤ length window
  pub are : AreLinesOf (take len window) lines
  pub bytes : to.bytes ≡ from.bytes + len
  pub count : to.lines ≡ from.lines + length lines
  pub replayed : (earlier : List Line) → from.lines ≡ length earlier → IsOngoingAfter earlier before → IsOngoingAfter (earlier ++ moved from.bytes lines) after
  pub allocated : all_blocks after ≡ all_blocks before ++ allocated_by from.lines (moved from.bytes lines)
  pub end : more ≡ false → whole_len_of window ≡ len
  pub progress : more ≡ true → 0 < len

-- the window's first fault, with its number counted in the log, of which so many lines come before the window
abbrev pub IsLaterFault : ℕ → List ℕ → LogError → Type 0
IsLaterFault n window e = (f : LogError) × IsFirstFault window f × (e ≡ later_fault n f)

-- the number of the fault's line
abbrev pub line_of_fault : LogError → ℕ
line_of_fault (BadLine n) = n
line_of_fault (Extent n) = n
line_of_fault NoMemory = 0

-- the window's next line, moved by so many bytes, was read after these; or there is none
abbrev pub IsNextMoved : ℕ → Reading → List Line → Option Line → Type 0
IsNextMoved n reading lines (Some y) = (x : Line) × (y ≡ placed n x) × HasRead reading (lines ++ x ∷ [])
IsNextMoved n reading lines None = HasRead reading lines × (whole_len_of reading.bytes ≡ reading.start)

-- the reader of a window that begins at the place and the replay have come equally far
pub record HaveComeOn (reading : Reading) (from : LogPlace) (before after : OngoingReplay) : Type 0 where
  pub lines : List Line
  pub read : HasRead reading lines
  pub replayed : (earlier : List Line) → from.lines ≡ length earlier → IsOngoingAfter earlier before → IsOngoingAfter (earlier ++ moved from.bytes lines) after
  pub allocated : all_blocks after ≡ all_blocks before ++ allocated_by from.lines (moved from.bytes lines)

-- the replay has gone over these lines, before which come so many others
pub record GoesOver (count : ℕ) (lines : List Line) (before after : OngoingReplay) : Type 0 where
  pub replayed : (earlier : List Line) → count ≡ length earlier → IsOngoingAfter earlier before → IsOngoingAfter (earlier ++ lines) after
  pub allocated : all_blocks after ≡ all_blocks before ++ allocated_by count lines

-- the bytes are complete lines, and were read as this
abbrev pub IsPart : List ℕ → Whole → Type 0
IsPart bytes read = AreLinesOf bytes read.lines × (read.whole_len ≡ length bytes)

-- the complete lines of the window were read part by part, as these
abbrev pub AreReadInParts : List ℕ → List Whole → Type 0
AreReadInParts window [] = whole_len_of window ≡ 0
AreReadInParts window (x ∷ xs) = (part rest : List ℕ) × (window ≡ part ++ rest) × IsPart part x × AreReadInParts rest xs
