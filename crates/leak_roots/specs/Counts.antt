-- How many blocks, and how many spans, begin at an address or before it. Each of them cuts at most one range of places in two.
use Rattle.std.specs.Prelude.{ℕ, leb, List}
use Rattle.std.specs.List.{count_by}
use Rattle.leak_blocks.specs.declared.block.Block.{Block}
use Rattle.leak_blocks.specs.declared.small.Span.{Span}

abbrev pub blocks_up_to : List Block → ℕ → ℕ
blocks_up_to blocks addr = count_by (λ block. leb block.start addr) blocks

abbrev pub spans_up_to : List Span → ℕ → ℕ
spans_up_to spans addr = count_by (λ span. leb span.first addr) spans
