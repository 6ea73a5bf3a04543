-- What words lead to as root words of memory without malloc's links to free chunks.
use Rattle.std.specs.Prelude.{◌≡◌, ℕ, Bool, true, List, [], flat_map, Option}
use Rattle.std.specs.List.{AllByRecursion}
use Rattle.std.specs.Option.{option_map_or}
use Rattle.leak_elf.specs.Words.{places, words_between}
use Rattle.leak_index.specs.Hits.{Index, hits_of}
use Rattle.leak_chunks.specs.FreeLinks.{without_free_links}
use Rattle.leak_scan.specs.Targets.{targets_of}

-- the blocks that the word at the place leads to, without those for which it is a link to a free chunk
abbrev pub held_by : (ℕ → Option ℕ) → Index → ℕ → ℕ → List ℕ
held_by word_at index place word = without_free_links word_at index.blocks place word (hits_of index word)

-- the same of the word at an address, if there is one
abbrev pub held_from : (ℕ → Option ℕ) → Index → ℕ → List ℕ
held_from word_at index a = option_map_or (held_by word_at index a) (word_at a) []

-- for each of the addresses in order, the blocks that its word leads to, without links to free chunks
unfoldable pub targets_without_links : (ℕ → Option ℕ) → Index → List ℕ → List ℕ
targets_without_links word_at index addresses = flat_map (held_from word_at index) addresses

-- the same over the words whose 8 bytes all lie from `from` on and before `to`
abbrev pub range_without_links : (ℕ → Option ℕ) → Index → ℕ → ℕ → List ℕ
range_without_links word_at index from to = targets_without_links word_at index (places from to)

-- without links nothing else is led to: if all blocks to which the words of a range lead pass a test, so do those that are left
abbrev pub RangesLeadLess : Type 0
RangesLeadLess = (word_at : ℕ → Option ℕ) (index : Index) (from to : ℕ) (test : ℕ → Bool)
    → AllByRecursion (λ b. test b ≡ true) (targets_of index (words_between word_at from to))
    → AllByRecursion (λ b. test b ≡ true) (range_without_links word_at index from to)
