-- Blocks of an earlier log in a later one (Boehm, Demers, Shenker, PLDI 1991). Own rule: a block is its allocation
-- line, since an address can be given out again, and blocks allocated meanwhile count as marked.
use Rattle.std.specs.Prelude.{◌≡◌, ℕ, ◌+◌, ◌<◌, Bool, true, false, ◌&&◌, List, [], ◌∷◌, ◌++◌, length, ◌==◌, nat_lt, if◌then◌else◌, not}
use Rattle.std.specs.List.{list_any}
use Rattle.std.specs.List.Sorted.{IsStrictlyIncreasing}
use Rattle.leak_mtrace.specs.declared.line.Line.{Line}
use Rattle.leak_blocks.specs.declared.block.Block.{Block}
use Rattle.leak_blocks.specs.Live.{live_of}
use Rattle.leak_marks.specs.Lists.{Has}
use Rattle.leak_later.specs.declared.kept.Carry.{Carry}

-- the numbers of the blocks that pass the test, if the first has the number n
abbrev pub numbers_from : ℕ → (Block → Bool) → List Block → List ℕ
numbers_from n test [] = []
numbers_from n test (b ∷ blocks) =
    if test b then n ∷ numbers_from (n + 1) test blocks else numbers_from (n + 1) test blocks

-- the line is that of a block of the list
abbrev pub has_line : List Block → ℕ → Bool
has_line blocks line = list_any (λ b. b.line == line) blocks

-- the line is that of a marked block of the list
abbrev pub has_marked_line : List Bool → List Block → ℕ → Bool
has_marked_line [] blocks line = false
has_marked_line (s ∷ set) [] line = false
has_marked_line (s ∷ set) (b ∷ blocks) line =
    if s && (b.line == line) then true else has_marked_line set blocks line

-- the later blocks whose line is that of a marked earlier block
unfoldable pub kept_of : List Block → List Bool → List Block → List ℕ
kept_of before set now = numbers_from 0 (λ b. has_marked_line set before b.line) now

-- the later blocks whose line comes after the lines of the earlier log
unfoldable pub fresh_of : ℕ → List Block → List ℕ
fresh_of lines_before now = numbers_from 0 (λ b. nat_lt lines_before b.line) now

-- the later blocks whose line is that of no earlier block
unfoldable pub absent_of : List Block → List Block → List ℕ
absent_of before now = numbers_from 0 (λ b. not (has_line before b.line)) now

-- if the earlier log begins the later one, these are the fresh ones
abbrev pub AbsentAreFresh : Type 0
AbsentAreFresh = (before after : List Line) →
    absent_of (live_of before) (live_of (before ++ after))
    ≡ fresh_of (length before) (live_of (before ++ after))

-- two ascending lists of numbers of blocks, of this many blocks, that have no number in common
pub record IsCarry (blocks : ℕ) (c : Carry) : Type 0 where
  pub kept_ascend : IsStrictlyIncreasing c.kept.items
  pub fresh_ascend : IsStrictlyIncreasing c.fresh.items
  pub kept_inside : (b : ℕ) → Has c.kept.items b → b < blocks
  pub fresh_inside : (b : ℕ) → Has c.fresh.items b → b < blocks
  pub apart : (b : ℕ) → Has c.kept.items b → ¬ Has c.fresh.items b
