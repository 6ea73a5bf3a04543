-- Slack: what glibc's malloc gives a block beyond the bytes that were asked for, up to the end of its chunk (malloc.c,
-- `struct malloc_chunk`). No block has these bytes, and they keep what was there before. Own rule: a program uses no more of
-- a block than it asked for.
use Rattle.std.specs.Prelude.{ℕ, ◌+◌, ◌-◌, ◌^◌, ◌&&◌, nat_lt, if◌then◌else◌, List, filter_map, Option, Some, None}
use Rattle.std.specs.Option.{option_map_or}
use Rattle.leak_blocks.specs.declared.block.Block.{Block}
use Rattle.leak_blocks.specs.declared.small.Span.{Span}
use Rattle.leak_chunks.specs.Fit.{chunk_size, fits_core, is_mapped}

-- The end, excluded, of what a block can have, by its chunk's size word. The chunk begins 16 bytes before the block. In a
-- heap the block also has the first word of the next chunk's header, which malloc uses only while the block's own chunk is free.
abbrev pub chunk_end : Block → ℕ → ℕ
chunk_end b word = b.start + chunk_size word - (if is_mapped word then 16 else 8)

-- the slack of the block by its size word, if it has any; a chunk beyond the last address has none
unfoldable pub slack_by : Block → ℕ → Option Span
slack_by b word =
    if nat_lt (b.start + chunk_size word) (2 ^ 64) && nat_lt (b.start + b.size) (chunk_end b word)
    then Some (record { first = b.start + b.size; last = chunk_end b word - 1 }) else None

-- the slack of the block, if it fits the core and has any
unfoldable pub slack_of : (ℕ → Option ℕ) → Block → Option Span
slack_of word_at b = if fits_core word_at b then option_map_or (slack_by b) (word_at (b.start - 8)) None else None

-- the slack of the blocks
unfoldable pub slack_spans_of : (ℕ → Option ℕ) → List Block → List Span
slack_spans_of word_at blocks = filter_map (slack_of word_at) blocks
