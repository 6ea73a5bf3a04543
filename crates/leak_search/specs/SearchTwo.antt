-- What a search of two cores of one process comes to: the live blocks of the later log to which no chain of words leads
-- from the roots of the later core, from the blocks kept from the earlier core, or from the new blocks (after Boehm,
-- Demers and Shenker, PLDI 1991; that new blocks count as marked is own rule).
use Rattle.std.specs.Prelude.{◌≡◌, ℕ, ◌^◌, ◌<◌, Bool, true, List, length, Some, IsTrue, slice_get, sum_by}
use Rattle.std.specs.Option.{option_map_or}
use Rattle.leak_elf.specs.Segments.{undumped_of}
use Rattle.leak_elf.specs.Words.{word_of}
use Rattle.leak_mtrace.specs.declared.line.Line.{Line}
use Rattle.leak_mtrace.specs.Log.{is_continued_by, torn_of}
use Rattle.leak_blocks.specs.declared.block.Block.{Block}
use Rattle.leak_blocks.specs.Live.{live_of, replay_of}
use Rattle.leak_index.specs.Leads.{Distances}
use Rattle.leak_roots.specs.declared.skip.Skip.{Skip}
use Rattle.leak_search.specs.LeftOut.{dead_told, freed_told}
use Rattle.leak_scan.specs.Heads.{heads_of}
use Rattle.leak_marks.specs.Lists.{Has}
use Rattle.leak_marks.specs.Reach.{Graph, Reach}
use Rattle.leak_marks.specs.Partition.{Partitions}
use Rattle.leak_pool.specs.Marking.{IsSet}
use Rattle.leak_later.specs.Differing.{AreDiffering, reread_of}
use Rattle.leak_later.specs.Kept.{kept_of, fresh_of, IsCarry}
use Rattle.leak_later.specs.Retrace.{graph_of_two}
use Rattle.leak_report.specs.declared.head.Head.{Head}
use Rattle.leak_report.specs.declared.head.Two.{Two}
use Rattle.leak_report.specs.Totals.{leaked_in}
use Rattle.leak_report.specs.Report.{text_of}
use Rattle.leak_search.specs.declared.found.Found.{Found}
use Rattle.leak_search.specs.declared.two_cores.Between.{Between}
use Rattle.leak_search.specs.Inputs.{IsFaultless}
use Rattle.leak_search.specs.Signs.{fits_told}
use Rattle.leak_search.specs.Search.{first_of, index_of, graph_of_one, claims_of}

-- the blocks that chains of the earlier core reach, as tests for the live blocks of its log
abbrev pub IsMarkedEarlier : List ℕ → Distances → Skip → List Line → List Bool → Type 0
IsMarkedEarlier core reading skip lines set = IsSet set (length (live_of lines)) (Reach (graph_of_one core reading skip lines))

-- the live blocks of the later log that were marked in the earlier core; a block is its line
abbrev pub kept_blocks : List Line → List Bool → List Line → List ℕ
kept_blocks before earlier now = kept_of (live_of before) earlier (live_of now)

-- the live blocks of the later log whose line comes after those of the earlier log
abbrev pub new_blocks : List Line → List Line → List ℕ
new_blocks before now = fresh_of (length before) (live_of now)

-- chains of the later core begin at kept blocks, at new ones, and at those that its root words lead to
abbrev pub graph_of_later : List ℕ → Distances → Skip → List ℕ → List ℕ → List Line → Graph
graph_of_later core reading skip kept fresh lines =
    let index = index_of reading lines in
    graph_of_two (word_of core) index (first_of core index skip lines) kept fresh

-- the sum of the sizes of the numbered blocks
unfoldable pub size_of : List Block → List ℕ → ℕ
size_of blocks numbers = sum_by (λ i. option_map_or (λ b. b.size) (slice_get blocks i) 0) numbers

-- the numbers of the report that are of two cores
abbrev pub numbers_of_two : List ℕ → List ℕ → List Block → List ℕ → List ℕ → Two
numbers_of_two core pages blocks kept fresh = record {
  fresh = length fresh;
  fresh_bytes = size_of blocks fresh;
  reread = reread_of (word_of core) pages blocks kept;
}

-- the numbers of the report's first lines: those of the later core and log, and those of two cores
abbrev pub head_of_two : List ℕ → List ℕ → Skip → List Line → Two → Head
head_of_two core log skip lines two = record {
  undumped = undumped_of core;
  unknown = (replay_of lines).unknown;
  displaced = (replay_of lines).displaced;
  torn = torn_of log;
  freed = freed_told skip core (live_of lines) lines;
  dead = dead_told skip core (live_of lines) lines;
  two = Some two;
}

-- what the later log has in common with the earlier input: kept and new blocks, and the pages that differ
pub record IsBetweenCores (core1 core2 : List ℕ) (reading : Distances) (skip : Skip) (before now : List Line) (b : Between) : Type 0 where
  pub earlier : List Bool
  pub marked : IsMarkedEarlier core1 reading skip before earlier
  pub kept : b.carry.kept.items ≡ kept_blocks before earlier now
  pub fresh : b.carry.fresh.items ≡ new_blocks before now
  pub lists : IsCarry (length (live_of now)) b.carry
  pub pages : AreDiffering (word_of core1) (word_of core2) b.pages

-- What is found in the later core if the numbered blocks are kept and new. The marked blocks are those that chains
-- reach; the report names the others, and tells which of them are heads by words of the later core, and its misfits if
-- that is asked for; each marked block that is neither kept nor new is claimed by one worker; and a block that chains of the
-- later core reach from its roots alone is marked.
pub record FindsLater (core log : List ℕ) (reading : Distances) (skip : Skip) (check : Bool) (lines : List Line) (pages kept fresh : List ℕ) (workers : ℕ) (found : Found) : Type 0 where
  pub set : List Bool
  pub marked : IsSet set (length (live_of lines)) (Reach (graph_of_later core reading skip kept fresh lines))
  pub reached : (i : ℕ) → i < length (live_of lines) → Reach (graph_of_one core reading skip lines) i → slice_get set i ≡ Some true
  pub report : found.report.items ≡ text_of (head_of_two core log skip lines (numbers_of_two core pages (live_of lines) kept fresh))
      (live_of lines) set (heads_of (word_of core) (index_of reading lines) set) (fits_told check core lines) log
  pub leaked : found.leaked ≡ length (leaked_in set (live_of lines))
  pub lists : length (claims_of found) ≡ workers
  pub claims : Partitions (claims_of found) (λ i. Reach (graph_of_later core reading skip kept fresh lines) i × ¬ Has kept i × ¬ Has fresh i)

-- Cores and logs are free of faults, the complete lines of the first log begin the second, and the blocks of each are few
-- enough to be numbered. The search of the later core begins with what chains of the earlier core reach and with what
-- was allocated since. The pages that differ are told by a number of the report alone.
pub record FindsTwo (core1 log1 core2 log2 : List ℕ) (reading : Distances) (skip : Skip) (check : Bool) (workers : ℕ) (found : Found) : Type 0 where
  pub first : IsFaultless core1 log1
  pub second : IsFaultless core2 log2
  pub continued : IsTrue (is_continued_by log1 log2)
  pub few_before : length (live_of first.lines) < 2 ^ 32
  pub few_now : length (live_of second.lines) < 2 ^ 32
  pub earlier : List Bool
  pub marked : IsMarkedEarlier core1 reading skip first.lines earlier
  pub pages : List ℕ
  pub differing : AreDiffering (word_of core1) (word_of core2) pages
  pub finds : FindsLater core2 log2 reading skip check second.lines pages (kept_blocks first.lines earlier second.lines) (new_blocks first.lines second.lines) workers found
