-- The state of a replay between two lines: the blocks of the allocations that are held, and a map from the start of each live one to the
-- number of its allocation, counted from 0. A numbered block stands for a block: it has the number in place of the line.
use Rattle.std.specs.Prelude.{◌≡◌, ◌+◌, ◌≤◌, ℕ, ⊤, true, false, List, [], ◌∷◌, map, Option, Some, None, filter, not, count_by, slice_get, slice_index, EachIndex}
use Rattle.std.specs.List.{AllByRecursion, list_any}
use Rattle.leak_mtrace.specs.declared.line.Line.{Line}
use Rattle.leak_blocks.specs.declared.block.Block.{Block}
use Rattle.leak_blocks.specs.declared.stage.Stage.{Stage}
use Rattle.leak_blocks.specs.Span.{AreDisjoint}
use Rattle.leak_blocks.specs.Live.{is_allocation, replay_of}
use Rattle.leak_blocks.specs.Steps.{meets}
use Rattle.leak_blocks.specs.Laws.{IsIn}

-- the numbered block stands for this one
pub record IsNumberOf (allocated : List Block) (b c : Block) : Type 0 where
  pub at : slice_get allocated b.line ≡ Some c
  pub start : b.start ≡ c.start
  pub size : b.size ≡ c.size

-- it stands for one
abbrev pub IsNumbered : List Block → Block → Type 0
IsNumbered allocated b = (c : Block) × IsNumberOf allocated b c

-- each of them stands for the block at the same index
abbrev pub AreNumbersOf : List Block → List Block → List Block → Type 0
AreNumbersOf allocated [] [] = ⊤
AreNumbersOf allocated [] (c ∷ cs) = ⊥
AreNumbersOf allocated (b ∷ bs) [] = ⊥
AreNumbersOf allocated (b ∷ bs) (c ∷ cs) = IsNumberOf allocated b c × AreNumbersOf allocated bs cs

-- what this numbered block stands for has the same place
pub record HasPlaceOf (found b : Block) : Type 0 where
  pub start : found.start ≡ b.start
  pub size : found.size ≡ b.size

-- the allocation of the number
abbrev pub IsAllocationAt : List Block → ℕ → Block → Type 0
IsAllocationAt allocated number found = (b : Block) → IsNumbered allocated b → b.line ≡ number → HasPlaceOf found b

abbrev pub entry_of : Block → ℕ × ℕ
entry_of b = (b.start, b.line)

abbrev pub entries_of : List Block → List (ℕ × ℕ)
entries_of blocks = map entry_of blocks

-- the map's entries are those of the numbered blocks, which are disjoint
pub record AreOf (allocated : List Block) (entries : List (ℕ × ℕ)) (blocks : List Block) : Type 0 where
  pub listed : entries ≡ entries_of blocks
  pub numbered : AllByRecursion (IsNumbered allocated) blocks
  pub disjoint : AreDisjoint blocks

-- the map stands for some blocks
abbrev pub HasBlocks : List Block → List (ℕ × ℕ) → Type 0
HasBlocks allocated entries = (blocks : List Block) × AreOf allocated entries blocks

-- the start is that of a block that the allocation meets; None: it meets no block
abbrev pub IsMet : Line → List Block → Option ℕ → Type 0
IsMet x blocks None = list_any (meets x) blocks ≡ false
IsMet x blocks (Some start) = (b : Block) × IsIn b blocks × (b.start ≡ start) × (meets x b ≡ true)

-- so for the blocks that the map stands for
abbrev pub IsMetIn : List Block → List (ℕ × ℕ) → Line → Option ℕ → Type 0
IsMetIn allocated entries x start = (blocks : List Block) → AreOf allocated entries blocks → IsMet x blocks start

-- the map stands for those that the allocation doesn't meet
abbrev pub HasUnmet : List Block → List (ℕ × ℕ) → Line → List (ℕ × ℕ) → Type 0
HasUnmet allocated entries x left =
    (blocks : List Block) → AreOf allocated entries blocks → left ≡ entries_of (filter (λ b. not (meets x b)) blocks)

-- the number of those that it meets
abbrev pub CountsMet : List Block → List (ℕ × ℕ) → Line → ℕ → Type 0
CountsMet allocated entries x count = (blocks : List Block) → AreOf allocated entries blocks → count ≡ count_by (meets x) blocks

-- the numbers are those of the blocks
pub record AreNumbered (allocated : List Block) (numbers : List ℕ) (blocks : List Block) : Type 0 where
  pub numbered : List Block
  pub stand : AreNumbersOf allocated numbered blocks
  pub listed : numbers ≡ map (λ b. b.line) numbered

-- they are those of some blocks
abbrev pub HaveBlocks : List Block → List ℕ → Type 0
HaveBlocks allocated numbers = (blocks : List Block) × AreNumbered allocated numbers blocks

-- the built blocks are those with these numbers
abbrev pub AreBlocksOf : List Block → List ℕ → List Block → Type 0
AreBlocksOf allocated numbers built = (blocks : List Block) → AreNumbered allocated numbers blocks → built ≡ blocks

-- no number is below its own index
abbrev pub AreBehind : List ℕ → Type 0
AreBehind numbers = EachIndex numbers (λ k. k ≤ slice_index numbers k)

-- each number is by one greater than the one before it
abbrev pub CountUp : ℕ → List ℕ → Type 0
CountUp first [] = ⊤
CountUp first (n ∷ ns) = (n ≡ first) × CountUp (first + 1) ns

-- the address and the size of each allocation of the lines, in their order
abbrev pub places_of : List Line → List (ℕ × ℕ)
places_of lines = map (λ x. (x.addr, x.size)) (filter is_allocation lines)

-- the blocks are those of all allocations of the lines, by address and size
abbrev pub HavePlacesOf : List Line → List Block → Type 0
HavePlacesOf lines blocks = map (λ b. (b.start, b.size)) blocks ≡ places_of lines

-- the numbers of the live allocations and the counts after these lines. Allocations that ended may be let go
pub record IsNumberedAfter (lines : List Line) (allocated : List Block) (numbers : List ℕ) (unknown displaced : ℕ) : Type 0 where
  pub blocks : AreNumbered allocated numbers (replay_of lines).blocks
  pub missed : unknown ≡ (replay_of lines).unknown
  pub ended : displaced ≡ (replay_of lines).displaced

-- the replay has come to this after these lines
abbrev pub IsStageAfter : List Line → Stage → Type 0
IsStageAfter lines stage = IsNumberedAfter lines stage.allocated.items stage.numbers.items stage.unknown stage.displaced
