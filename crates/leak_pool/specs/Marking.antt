-- What marking comes to, for every plan and every schedule (bdwgc: an object is kept if a chain of words
-- leads to it from a root; Boehm, Demers, Shenker, PLDI 1991, for marking from an earlier state).
use Rattle.std.specs.Prelude.{◌≡◌, ℕ, ◌+◌, ◌<◌, ◌≤◌, ◌⊎◌, ◌↔◌, Bool, true, false, List, [], ◌++◌, length, map, flat_map, filter_map, Option, Some, slice_get}
use Rattle.std.specs.Option.{option_map_or}
use Rattle.std.specs.List.{AllByRecursion}
use Rattle.leak_blocks.specs.declared.block.Block.{Block}
use Rattle.leak_index.specs.Hits.{Index}
use Rattle.leak_scan.specs.Targets.{block_words, block_words_on, block_targets, targets_of}
use Rattle.leak_scan.specs.RootWords.{targets_without_links}
use Rattle.leak_roots.specs.Places.{Places, memory_places}
use Rattle.leak_marks.specs.Lists.{Has}
use Rattle.leak_marks.specs.Reach.{Graph, Reach}
use Rattle.leak_marks.specs.Partition.{Partitions}
use Rattle.leak_pool.specs.declared.start.Part.{Part}
use Rattle.leak_pool.specs.declared.start.Part.TheVariants.{Whole, Differing}
use Rattle.leak_pool.specs.declared.start.Start.{Start}
use Rattle.leak_pool.specs.declared.marked.Marked.{Marked}

-- what the words at addresses in memory lead to as root words, and the same without malloc's links to free chunks
abbrev pub led_in_memory : Bool → (ℕ → Option ℕ) → Index → List ℕ → List ℕ
led_in_memory false word_at index addresses = targets_of index (filter_map word_at addresses)
led_in_memory true word_at index addresses = targets_without_links word_at index addresses

-- what root words lead to: those of registers, and those in memory with such links or without
abbrev pub led_from : Bool → (ℕ → Option ℕ) → Index → List ℕ → List ℕ → List ℕ
led_from skips_links word_at index registers addresses =
    targets_of index registers ++ led_in_memory skips_links word_at index addresses

-- what the root words at the places lead to
abbrev pub led_by_roots : (ℕ → Option ℕ) → Index → Places → List ℕ
led_by_roots word_at index places =
    led_from places.skips_links word_at index places.registers (memory_places places.memory)

-- the graph of a log's blocks: the blocks that are led to first, and what each block's words lead to
unfoldable pub graph_of : (ℕ → Option ℕ) → Index → List ℕ → List ℕ → Graph
graph_of word_at index first given = record {
  first = first;
  targets = map (block_targets word_at index) index.blocks;
  given = given;
}

-- for each of n blocks, whether it is in the set
pub record IsSet (tests : List Bool) (n : ℕ) (set : ℕ → Type 0) : Type 0 where
  pub len : length tests ≡ n
  pub each : (i : ℕ) → i < n → ((slice_get tests i ≡ Some true) ↔ set i)

-- the words of a part of a block: all, or those on the pages
abbrev pub words_of_part : (ℕ → Option ℕ) → List ℕ → Part → Block → List ℕ
words_of_part word_at pages Whole b = block_words word_at b
words_of_part word_at pages Differing b = block_words_on word_at pages b

abbrev pub part_words : (ℕ → Option ℕ) → List ℕ → List Block → ℕ × Part → List ℕ
part_words word_at pages blocks part =
    option_map_or (words_of_part word_at pages part.1) (slice_get blocks part.0) []

-- the lists of claims, worker by worker
abbrev pub lists_of : Marked → List (List ℕ)
lists_of m = map (λ v. v.items) m.claims.items

-- the graph of marking from the roots alone
abbrev pub graph_of_roots : (ℕ → Option ℕ) → Index → Places → Graph
graph_of_roots word_at index places = graph_of word_at index (led_by_roots word_at index places) []

-- the marked set is what the roots reach, the claims partition it, and the rounds are at most one more than the blocks
pub record MarksFromRoots (word_at : ℕ → Option ℕ) (index : Index) (places : Places) (workers : ℕ)
    (m : Marked) : Type 0 where
  pub set : IsSet m.set.items (length index.blocks) (Reach (graph_of_roots word_at index places))
  pub lists : length (lists_of m) ≡ workers
  pub claims : Partitions (lists_of m) (Reach (graph_of_roots word_at index places))
  pub rounds : m.rounds ≤ length index.blocks + 1
  pub none : length index.blocks ≡ 0 → m.rounds ≡ 0

-- the graph of marking from a start
abbrev pub graph_from : (ℕ → Option ℕ) → Index → Places → List ℕ → Start → Graph
graph_from word_at index places pages s =
    let again = flat_map (part_words word_at pages index.blocks) s.rescan.items in
    graph_of word_at index (led_by_roots word_at index places ++ targets_of index again) s.marked.items

-- the same from a start: the marked blocks, and what is reached outside them, which the claims partition
pub record MarksFrom (word_at : ℕ → Option ℕ) (index : Index) (places : Places) (pages : List ℕ)
    (s : Start) (workers : ℕ) (m : Marked) : Type 0 where
  pub set : IsSet m.set.items (length index.blocks) (λ i.
      Has s.marked.items i ⊎ Reach (graph_from word_at index places pages s) i)
  pub lists : length (lists_of m) ≡ workers
  pub claims : Partitions (lists_of m) (Reach (graph_from word_at index places pages s))
  pub rounds : m.rounds ≤ length index.blocks + 1
  pub none : length index.blocks ≡ 0 → m.rounds ≡ 0

-- a start names blocks alone, and scans again only what it marks
pub record IsStartOf (blocks : ℕ) (s : Start) : Type 0 where
  pub inside : (b : ℕ) → Has s.marked.items b → b < blocks
  pub rescan : AllByRecursion (λ part. Has s.marked.items part.0) s.rescan.items
