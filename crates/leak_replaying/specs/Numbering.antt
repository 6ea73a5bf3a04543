-- Texts of callers that are numbered while their log passes.
use Rattle.std.specs.Prelude.{◌≡◌, ℕ, ◌+◌, ◌-◌, ◌<◌, ◌≤◌, List, ◌++◌, length, map, nat_lt, if◌then◌else◌, All}
use Rattle.leak_blocks.specs.declared.block.Block.{Block}
use Rattle.leak_report.specs.Totals.{HaveCallersIn}
use Rattle.leak_report.specs.Numbered.{text_with, texts_of}

-- a text of a caller has a byte
abbrev pub HasByte : List ℕ → Type 0
HasByte text = 0 < length text

-- the callers of the blocks are ranges of the log, and each block has the number of its caller's text
pub record AreNumberedBy (log : List ℕ) (blocks : List Block) (texts : List (List ℕ)) (numbers : List ℕ) : Type 0 where
  pub inside : HaveCallersIn log blocks
  pub each : All HasByte texts
  pub below : All (λ n. n < length texts) numbers
  pub same : map (text_with texts) numbers ≡ texts_of log blocks

-- the caller is a range of so many bytes behind so many others, or names no place
pub record IsBehind (before len : ℕ) (caller : ℕ × ℕ) : Type 0 where
  pub order : caller.0 ≤ caller.1
  pub within : caller.1 ≤ before + len
  pub from : caller.0 < caller.1 → before ≤ caller.0

-- the range of those bytes
abbrev pub moved_back : ℕ → ℕ × ℕ → ℕ × ℕ
moved_back before caller = if nat_lt caller.0 caller.1 then (caller.0 - before, caller.1 - before) else (0, 0)

-- whatever blocks of the log before this window were numbered, these blocks of the window were numbered too
abbrev pub NumbersMore : ℕ → List ℕ → List Block → List (List ℕ) → List ℕ → List (List ℕ) → List ℕ → Type 0
NumbersMore before window blocks texts numbers later longer = (log : List ℕ) (others : List Block)
    → length log ≡ before → AreNumberedBy log others texts numbers
    → AreNumberedBy (log ++ window) (others ++ blocks) later longer
