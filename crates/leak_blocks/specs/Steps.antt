-- What one more line does to the live blocks of a log: the replay's way to them.
use Rattle.std.specs.Prelude.{ℕ, ◌+◌, max, Bool, not, ◌&&◌, ◌||◌, List, ◌==◌, nat_lt, if◌then◌else◌, filter}
use Rattle.std.specs.List.{list_any}
use Rattle.leak_mtrace.specs.declared.line.Line.{Line}
use Rattle.leak_blocks.specs.declared.block.Block.{Block}
use Rattle.leak_blocks.specs.Span.{span_end}
use Rattle.leak_blocks.specs.Live.{is_allocation, is_give_back, block_of, among}

-- the allocation's span has an address of the block's
abbrev pub meets : Line → Block → Bool
meets x b = nat_lt x.addr (span_end b) && nat_lt b.start (x.addr + max x.size 1)

-- the line ends the block
abbrev pub ends_block : Line → Block → Bool
ends_block x b = (is_give_back x && (x.addr == b.start)) || (is_allocation x && meets x b)

-- the blocks that the line leaves
abbrev pub left_by : Line → List Block → List Block
left_by x blocks = filter (λ b. not (ends_block x b)) blocks

-- the blocks after the line of this number, if these are the blocks before it
abbrev pub after_line : ℕ → Line → List Block → List Block
after_line number x blocks = if is_allocation x then among (block_of number x) (left_by x blocks) else left_by x blocks

-- whether the line gives back what is not there
abbrev pub misses : Line → List Block → Bool
misses x blocks = is_give_back x && not (list_any (λ b. b.start == x.addr) blocks)
