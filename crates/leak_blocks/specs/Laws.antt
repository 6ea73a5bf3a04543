-- What the live blocks of every log are like.
use Rattle.std.specs.Prelude.{◌≡◌, ◌+◌, ◌-◌, ◌≤◌, ◌<◌, ◌⊎◌, cond, List, [], ◌∷◌, ◌++◌, length, slice_get, Some, IsTrue, if◌then◌else◌, count_by}
use Rattle.std.specs.List.{AllByRecursion}
use Rattle.leak_mtrace.specs.declared.line.Line.{Line}
use Rattle.leak_mtrace.specs.Log.{LinesFit}
use Rattle.leak_blocks.specs.declared.block.Block.{Block}
use Rattle.leak_blocks.specs.Span.{AreAddressed, AreDisjoint}
use Rattle.leak_blocks.specs.Live.{is_allocation, block_of, live_of, replay_of}
use Rattle.leak_blocks.specs.Steps.{ends_block, misses, after_line}

-- their spans have no address in common, and they are sorted by ascending start
abbrev pub LiveAreDisjoint : Type 0
LiveAreDisjoint = (lines : List Line) → AreDisjoint (live_of lines)

-- the block is that of its line, an allocation of the log
pub record IsOfLine (lines : List Line) (b : Block) : Type 0 where
  pub line : Line
  pub numbered : 0 < b.line
  pub within : b.line ≤ length lines
  pub at : slice_get lines (b.line - 1) ≡ Some line
  pub allocates : IsTrue (is_allocation line)
  pub same : b ≡ block_of b.line line

-- so its caller is that of a line
abbrev pub LiveAreOfLines : Type 0
LiveAreOfLines = (lines : List Line) → AllByRecursion (IsOfLine lines) (live_of lines)

-- if no line's block ends past the address space, each live block has its addresses in 64 bits
abbrev pub LiveAreAddressed : Type 0
LiveAreAddressed = (lines : List Line) → LinesFit lines → AreAddressed (live_of lines)

-- the block is in the list
abbrev pub IsIn : Block → List Block → Type 0
IsIn b [] = ⊥
IsIn b (c ∷ cs) = (c ≡ b) ⊎ IsIn b cs

-- two live blocks of one line are one block
abbrev pub LiveAreOneALine : Type 0
LiveAreOneALine = (lines : List Line) (b c : Block) → IsIn b (live_of lines) → IsIn c (live_of lines) → b.line ≡ c.line → b ≡ c

-- what is live in a longer log, and was allocated in the shorter one, was live there
abbrev pub LiveWereLive : Type 0
LiveWereLive = (before after : List Line) (b : Block) → IsIn b (live_of (before ++ after)) → b.line ≤ length before → IsIn b (live_of before)

-- what one more line does: it ends blocks, and an allocation adds its own; an allocation counts what it ends as
-- displaced, and a give-back with nothing to end counts as unknown
pub record GrowsBy (lines : List Line) (x : Line) : Type 0 where
  pub blocks : (replay_of (lines ++ x ∷ [])).blocks ≡ after_line (length lines + 1) x (replay_of lines).blocks
  pub unknown : (replay_of (lines ++ x ∷ [])).unknown ≡ (replay_of lines).unknown + cond (misses x (replay_of lines).blocks) 1 0
  pub displaced : (replay_of (lines ++ x ∷ [])).displaced ≡ (replay_of lines).displaced + (if is_allocation x then count_by (ends_block x) (replay_of lines).blocks else 0)

abbrev pub ReplaysLineByLine : Type 0
ReplaysLineByLine = (lines : List Line) (x : Line) → GrowsBy lines x
