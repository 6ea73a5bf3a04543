-- Heads (own rule): a head is a leaked block to which no word of another leaked block leads. A block's own words don't
-- count. In a ring of leaked blocks to which nothing else leads there is none.
use Rattle.std.specs.Prelude.{ℕ, Bool, true, not, ◌&&◌, List, length, map, slice_index_or, ◌==◌, Option}
use Rattle.std.specs.List.{list_any, enumerate_from, range_with_len}
use Rattle.leak_blocks.specs.declared.block.Block.{Block}
use Rattle.leak_index.specs.Hits.{Index}
use Rattle.leak_scan.specs.Targets.{block_targets}

-- the block with the number is not in the set, which has an entry for each block
abbrev pub is_leaked : List Bool → ℕ → Bool
is_leaked set b = not (slice_index_or set b true)

-- a word of the block leads to the one with the number
abbrev pub leads_to : (ℕ → Option ℕ) → Index → Block → ℕ → Bool
leads_to word_at index c b = list_any (λ target. target == b) (block_targets word_at index c)

-- the block, which has its number beside it, is leaked, is another than the one with the number, and leads to it
abbrev pub holds : (ℕ → Option ℕ) → Index → List Bool → ℕ → ℕ × Block → Bool
holds word_at index set b c = is_leaked set c.0 && not (c.0 == b) && leads_to word_at index c.1 b

-- the block with the number is leaked, and none of the blocks holds it
abbrev pub is_head : (ℕ → Option ℕ) → Index → List Bool → ℕ → Bool
is_head word_at index set b = is_leaked set b && not (list_any (holds word_at index set b) (enumerate_from 0 index.blocks))

-- for each block in order, whether it is a head
unfoldable pub heads_of : (ℕ → Option ℕ) → Index → List Bool → List Bool
heads_of word_at index set = map (is_head word_at index set) (range_with_len 0 (length index.blocks))
