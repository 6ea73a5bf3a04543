-- The words of a block, and the blocks that words lead to (bdwgc: a block keeps what its aligned words could
-- be addresses of).
use Rattle.std.specs.Prelude.{ℕ, ◌+◌, ◌/◌, Bool, List, filter, flat_map, filter_map, ◌==◌, Option}
use Rattle.std.specs.List.{list_any}
use Rattle.leak_elf.specs.Words.{places, words_between}
use Rattle.leak_blocks.specs.declared.block.Block.{Block}
use Rattle.leak_index.specs.Hits.{Index, hits_of}

-- the words whose 8 bytes all lie in [start, start + size)
abbrev pub block_words : (ℕ → Option ℕ) → Block → List ℕ
block_words word_at b = words_between word_at b.start (b.start + b.size)

-- pages are ranges of 4096 addresses
abbrev pub page_of : ℕ → ℕ
page_of a = a / 4096

-- the page with the number is one of the list
abbrev pub is_listed : List ℕ → ℕ → Bool
is_listed pages page = list_any (λ p. p == page) pages

abbrev pub is_on : List ℕ → ℕ → Bool
is_on pages a = is_listed pages (page_of a)

-- those of the block's words that are on the pages
unfoldable pub block_words_on : (ℕ → Option ℕ) → List ℕ → Block → List ℕ
block_words_on word_at pages b = filter_map word_at (filter (is_on pages) (places b.start (b.start + b.size)))

-- for each word in order, the blocks that it leads to in order
unfoldable pub targets_of : Index → List ℕ → List ℕ
targets_of index words = flat_map (hits_of index) words

unfoldable pub block_targets : (ℕ → Option ℕ) → Index → Block → List ℕ
block_targets word_at index b = targets_of index (block_words word_at b)
