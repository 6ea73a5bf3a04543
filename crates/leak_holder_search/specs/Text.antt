-- The report on who holds the memory (own rule): the sums of a search, and a line for each holder.
use Rattle.std.specs.Prelude.{ℕ, ◌<◌, Bool, List, [], ◌++◌, flat_map, codes, decimal, slice_index_or, Option, None, Some}
use Rattle.std.specs.List.{AllByRecursion}
use Rattle.leak_blocks.specs.declared.block.Block.{Block}
use Rattle.leak_report.specs.declared.head.Head.{Head}
use Rattle.leak_report.specs.Totals.{marked_in, leaked_in}
use Rattle.leak_report.specs.Lines.{newline, hexadecimal, blocks_line, undumped_line, log_line, freed_lines, dead_lines}
use Rattle.leak_report.specs.Numbered.{text_with}
use Rattle.leak_holders.specs.declared.holder.Holder.{Holder}

-- the address of the first byte of the block with the number
abbrev pub start_of : List Block → ℕ → ℕ
start_of blocks b = (slice_index_or blocks b (record { start = 0; size = 0; line = 0; caller = (0, 0) })).start

-- a holder's line up to the text. The address is that of its first reached block, for the question why it is held.
abbrev pub holder_front : Holder → ℕ → List ℕ
holder_front row start =
    codes "holder " ++ (decimal row.blocks ++ (codes " " ++ (decimal row.bytes ++ (codes " " ++ (decimal row.own ++ (codes " "
    ++ (decimal row.own_bytes ++ (codes " " ++ (decimal row.within ++ (codes " " ++ (hexadecimal start ++ codes " ")))))))))))

abbrev pub holder_line : Holder → ℕ → List ℕ → List ℕ
holder_line row start text = holder_front row start ++ text ++ newline

-- the line of a row of these blocks and texts
abbrev pub line_of : List Block → List (List ℕ) → Holder → List ℕ
line_of blocks texts row = holder_line row (start_of blocks row.block) (text_with texts row.text)

-- if blocks of later lines alone are counted, those
abbrev pub new_lines : Option (List Bool) → List Block → List ℕ
new_lines None blocks = []
new_lines (Some counted) blocks = blocks_line (codes "new") (marked_in counted blocks)

-- the lines before those of the holders
abbrev pub sums_of : Head → List Block → Option (List Bool) → List Bool → List ℕ
sums_of head blocks news set =
    blocks_line (codes "blocks") blocks ++ undumped_line head ++ log_line head ++ freed_lines head.freed ++ dead_lines head.dead ++ new_lines news blocks
    ++ blocks_line (codes "marked") (marked_in set blocks) ++ blocks_line (codes "leaked") (leaked_in set blocks)

-- the report of the live blocks and the marked set, with the numbers of the head, the new blocks and the rows of holders
unfoldable pub holders_text : Head → List Block → Option (List Bool) → List Bool → List (List ℕ) → List Holder → List ℕ
holders_text head blocks news set texts rows = sums_of head blocks news set ++ flat_map (line_of blocks texts) rows

-- the row tells of one of `blocks` blocks, and of one of `texts` texts
pub record IsRowOf (blocks texts : ℕ) (row : Holder) : Type 0 where
  pub block : row.block < blocks
  pub text : row.text < texts

abbrev pub AreRowsOf : ℕ → ℕ → List Holder → Type 0
AreRowsOf blocks texts rows = AllByRecursion (IsRowOf blocks texts) rows
