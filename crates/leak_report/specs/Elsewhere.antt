-- Blocks whose callers' texts are kept elsewhere than in the log: when these are the same texts, and that the report is then
-- the same.
use Rattle.std.specs.Prelude.{◌≡◌, ℕ, ◌<◌, Bool, List, length, map, slice_index_or, Option, All}
use Rattle.leak_blocks.specs.declared.block.Block.{Block}
use Rattle.leak_report.specs.Sites.{with_callers}
use Rattle.leak_report.specs.declared.head.Head.{Head}
use Rattle.leak_report.specs.Totals.{IsIn, HaveCallersIn, text_at}
use Rattle.leak_report.specs.Numbered.{texts_of}
use Rattle.leak_report.specs.Report.{text_of}

-- the text at the place with the number
abbrev pub text_there : List ℕ → List (ℕ × ℕ) → ℕ → List ℕ
text_there kept places n = text_at kept (slice_index_or places n (0, 0))

-- the places are ranges of the kept bytes; and each block has the number of one, at which there is the text that its caller
-- has in the log
pub record HaveTextsAt (log kept : List ℕ) (places : List (ℕ × ℕ)) (numbers : List ℕ) (blocks : List Block) : Type 0 where
  pub one_each : length numbers ≡ length blocks
  pub within : All (λ n. n < length places) numbers
  pub inside : All (IsIn kept) places
  pub same : map (text_there kept places) numbers ≡ texts_of log blocks

-- as many blocks as before have their callers in the kept bytes, and the report of them is that of the blocks in the log
pub record AreReportedAlike (log kept : List ℕ) (old new : List Block) : Type 0 where
  pub count : length new ≡ length old
  pub in_kept : HaveCallersIn kept new
  pub report : (head : Head) (set heads : List Bool) (fits : Option (List Bool))
      → text_of head new set heads fits kept ≡ text_of head old set heads fits log

-- it is enough for the report that the texts are the same, wherever they stand
abbrev pub ReportsGoByTexts : Type 0
ReportsGoByTexts = (log kept : List ℕ) (places : List (ℕ × ℕ)) (numbers : List ℕ) (blocks : List Block)
    → HaveTextsAt log kept places numbers blocks → AreReportedAlike log kept blocks (with_callers places numbers blocks)
