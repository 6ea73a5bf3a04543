-- Laws of what grew: two answers are one, and what the rows add up to.
use Rattle.std.specs.Prelude.{◌≡◌, ℕ, ◌+◌, List, length, sum_by, IsTrue}
use Rattle.std.specs.List.{AllByRecursion}
use Rattle.std.specs.List.Sorted.{IsStrictlySortedBy}
use Rattle.leak_mtrace.specs.declared.line.Line.{Line}
use Rattle.leak_mtrace.specs.Log.{IsLog, is_continued_by}
use Rattle.leak_blocks.specs.declared.block.Block.{Block}
use Rattle.leak_blocks.specs.Live.{live_of}
use Rattle.leak_report.specs.Totals.{bytes_of}
use Rattle.leak_growth.specs.declared.growth.Grown.{Grown}
use Rattle.leak_growth.specs.Growth.{FindsGrowth}
use Rattle.leak_growth.specs.Report.{growths_of}
use Rattle.leak_growth.specs.Rows.{Growth, has_changed, new_of, rank}

-- The rows' numbers now, less those then, are the numbers of all blocks now, less those then: said as sums, since growth may be below 0. A
-- text without a row has the same blocks in both. New blocks are those of the rows.
pub record AddUp (earlier later : List Block) (after : ℕ) (rows : List Growth) : Type 0 where
  pub blocks : sum_by (λ g. g.later.blocks) rows + length earlier ≡ sum_by (λ g. g.earlier.blocks) rows + length later
  pub bytes : sum_by (λ g. g.later.bytes) rows + bytes_of earlier ≡ sum_by (λ g. g.earlier.bytes) rows + bytes_of later
  pub new_blocks : sum_by (λ g. g.new.blocks) rows ≡ length (new_of after later)
  pub new_bytes : sum_by (λ g. g.new.bytes) rows ≡ bytes_of (new_of after later)
  -- by descending growth, ties by the ascending bytes of the text; each text changed
  pub ordered : IsStrictlySortedBy rank rows
  pub changed : AllByRecursion (λ g. IsTrue (has_changed g.earlier g.later g.new)) rows

-- so do the rows of two logs, of which the first begins the second
abbrev pub GrowthsAddUp : Type 0
GrowthsAddUp =
    (log1 log2 : List ℕ) (before now : List Line) → IsTrue (is_continued_by log1 log2) → IsLog log1 before → IsLog log2 now
    → AddUp (live_of before) (live_of now) (length before) (growths_of log1 (live_of before) log2 (live_of now) (length before))

-- the same report of what grew, and the same signs
pub record IsSameGrowth (a b : Grown) : Type 0 where
  pub report : a.report.items ≡ b.report.items
  pub signs : a.signs.items ≡ b.signs.items

abbrev pub ReportsOfGrowthAreOne : Type 0
ReportsOfGrowthAreOne = (log1 log2 : List ℕ) (a b : Grown) → FindsGrowth log1 log2 a → FindsGrowth log1 log2 b → IsSameGrowth a b
