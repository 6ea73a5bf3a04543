-- Rows of addresses, for blocks that start at multiples of 16. The row with the number n is the 1024 addresses from
-- 1024 * n on: 64 granules of 16.
use Rattle.std.specs.Prelude.{◌≡◌, ℕ, true, ◌+◌, ◌-◌, ◌*◌, ◌/◌, ◌%◌, ◌^◌, ◌<◌, ◌≤◌, List, length, slice_index_or, count_ones}
use Rattle.std.specs.List.Sorted.{IsStrictlyIncreasing}
use Rattle.leak_blocks.specs.declared.block.Block.{Block}
use Rattle.leak_index.specs.declared.ranks.Ranks.{Ranks}
use Rattle.leak_index.specs.declared.ranks.Row.{Row}

-- what stands for a block whose number is out of range
abbrev pub none : Block
none = record { start = 0; size = 0; line = 0; caller = (0, 0) }

-- where the block with the number starts, and in which row
abbrev pub start_of : List Block → ℕ → ℕ
start_of blocks k = (slice_index_or blocks k none).start

abbrev pub row_of : List Block → ℕ → ℕ
row_of blocks k = start_of blocks k / 1024

-- where it ends
abbrev pub stop_of : List Block → ℕ → ℕ
stop_of blocks k = (slice_index_or blocks k none).start + (slice_index_or blocks k none).size

-- each block before the one with the number ends before that one begins
pub record IsApart (blocks : List Block) (number : ℕ) : Type 0 where
  pub each : (k : ℕ) → k < number → stop_of blocks k < start_of blocks number

-- each block starts at a multiple of 16
pub record AreAligned (blocks : List Block) : Type 0 where
  pub each : (k : ℕ) → k < length blocks → start_of blocks k % 16 ≡ 0

-- of the first n blocks, this many begin below the address, and the others at it or after it
pub record IsCountBelow (blocks : List Block) (n address count : ℕ) : Type 0 where
  pub bound : count ≤ n
  pub below : (k : ℕ) → k < count → start_of blocks k < address
  pub above : (k : ℕ) → count ≤ k → k < n → address ≤ start_of blocks k

-- how many of the first n blocks begin below each granule of the row with the number, and below its end, and whether all
-- that begin in it are apart from those before them
pub record IsRow (blocks : List Block) (n number : ℕ) (row : Row) : Type 0 where
  pub counts : (g : ℕ) → g ≤ 64 → IsCountBelow blocks n (1024 * number + 16 * g) (row.first + count_ones (row.bits % 2 ^ g))
  pub apart : row.apart ≡ true → (k : ℕ) → k < n → row_of blocks k ≡ number → IsApart blocks k

-- rows that follow one another, of all blocks, from the one with the number on
abbrev pub AreRowsFrom : List Block → ℕ → List Row → Type 0
AreRowsFrom blocks number rows = (k : ℕ) (d : Row) → k < length rows → IsRow blocks (length blocks) (number + k) (slice_index_or rows k d)

-- where the run ends in the list of `total` rows
abbrev pub end_of : List ℕ → ℕ → ℕ → ℕ
end_of places total run = slice_index_or places (run + 1) total

-- runs of rows, by the numbers of their first rows and by where they begin
pub record AreRuns (numbers places : List ℕ) (total : ℕ) : Type 0 where
  pub ascending : IsStrictlyIncreasing numbers
  pub paired : length places ≡ length numbers
  pub filled : (e : ℕ) → e < length numbers → slice_index_or places e 0 < end_of places total e
  pub inside : (e : ℕ) → e < length numbers → end_of places total e ≤ total

-- the number of the row at the place, in the run
abbrev pub number_at : List ℕ → List ℕ → ℕ → ℕ → ℕ
number_at numbers places e i = slice_index_or numbers e 0 + (i - slice_index_or places e 0)

-- the rows of the first n blocks: each row counts, and no block starts before, between or after the runs
pub record AreRanked (blocks : List Block) (n : ℕ) (numbers places : List ℕ) (rows : List Row) : Type 0 where
  pub runs : AreRuns numbers places (length rows)
  pub each : (e i : ℕ) (d : Row) → e < length numbers → slice_index_or places e 0 ≤ i → i < end_of places (length rows) e → IsRow blocks n (number_at numbers places e i) (slice_index_or rows i d)
  pub some : (k : ℕ) → k < n → 0 < length numbers
  pub front : (k : ℕ) → k < n → slice_index_or numbers 0 0 ≤ row_of blocks k
  pub more : (e k : ℕ) → e < length numbers → k < n → number_at numbers places e (end_of places (length rows) e) ≤ row_of blocks k → e + 1 < length numbers
  pub between : (e k : ℕ) → e < length numbers → k < n → number_at numbers places e (end_of places (length rows) e) ≤ row_of blocks k → slice_index_or numbers (e + 1) 0 ≤ row_of blocks k

-- as far as they are made: the row after the last has the number
pub record AreRankedTo (blocks : List Block) (n next : ℕ) (numbers places : List ℕ) (rows : List Row) : Type 0 where
  pub ranked : AreRanked blocks n numbers places rows
  pub known : (k : ℕ) → k < n → row_of blocks k < next
  pub first : 0 < next → 0 < length numbers
  pub close : (e : ℕ) → e < length numbers → number_at numbers places e (length rows) ≤ next
  pub last : (e : ℕ) → e + 1 ≡ length numbers → number_at numbers places e (length rows) ≡ next

abbrev pub IsMadeTo : List Block → ℕ → Ranks → Type 0
IsMadeTo blocks n ranks = AreRankedTo blocks n ranks.next ranks.numbers.items ranks.places.items ranks.rows.items

abbrev pub IsRanked : List Block → Ranks → Type 0
IsRanked blocks ranks = AreRanked blocks (length blocks) ranks.numbers.items ranks.places.items ranks.rows.items
