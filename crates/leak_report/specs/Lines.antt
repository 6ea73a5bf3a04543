-- The lines of the report (own rule). Numbers are decimal, an address is 0x and lower-case hexadecimal digits.
use Rattle.std.specs.Prelude.{ℕ, Bool, true, false, List, [], ◌∷◌, ◌++◌, length, codes, decimal, Option, Some, None}
use Rattle.std.specs.Fmt.{digits}
use Rattle.leak_blocks.specs.declared.block.Block.{Block}
use Rattle.leak_report.specs.declared.totals.CallerRow.{CallerRow}
use Rattle.leak_report.specs.declared.head.Head.{Head}
use Rattle.leak_report.specs.declared.head.Two.{Two}
use Rattle.leak_report.specs.Totals.{Leak, bytes_of, text_at}

abbrev pub newline : List ℕ
newline = 10 ∷ []

abbrev pub hexadecimal : ℕ → List ℕ
hexadecimal n = codes "0x" ++ digits 16 false n

-- a name, a number of blocks and the sum of their sizes
abbrev pub sizes_line : List ℕ → ℕ → ℕ → List ℕ
sizes_line name blocks bytes = name ++ (codes " " ++ (decimal blocks ++ (codes " bytes " ++ (decimal bytes ++ newline))))

abbrev pub blocks_line : List ℕ → List Block → List ℕ
blocks_line name blocks = sizes_line name (length blocks) (bytes_of blocks)

abbrev pub undumped_line : Head → List ℕ
undumped_line head = codes "undumped " ++ (decimal head.undumped ++ newline)

abbrev pub log_line : Head → List ℕ
log_line head =
    codes "unknown " ++ (decimal head.unknown ++ (codes " displaced " ++ (decimal head.displaced ++ (codes " torn " ++ (decimal head.torn ++ newline)))))

-- only if freed memory is left out
abbrev pub freed_lines : Option ℕ → List ℕ
freed_lines None = []
freed_lines (Some freed) = codes "freed " ++ (decimal freed ++ newline)

-- only if dead stack is left out
abbrev pub dead_lines : Option ℕ → List ℕ
dead_lines None = []
dead_lines (Some dead) = codes "dead " ++ (decimal dead ++ newline)

abbrev pub reread_line : Two → List ℕ
reread_line two = codes "reread " ++ (decimal two.reread ++ newline)

-- only with two cores
abbrev pub two_lines : Option Two → List ℕ
two_lines None = []
two_lines (Some two) = sizes_line (codes "new") two.fresh two.fresh_bytes ++ reread_line two

-- a number of heads
abbrev pub heads_line : ℕ → List ℕ
heads_line heads = codes "heads " ++ (decimal heads ++ newline)

-- what a leaked block is: a head, or held by another
abbrev pub kind_of : Bool → List ℕ
kind_of true = codes "head"
kind_of false = codes "held"

-- a caller's line, and a leaked block's, up to the text
abbrev pub caller_front : ℕ → ℕ → ℕ → List ℕ
caller_front blocks bytes heads =
    codes "caller " ++ (decimal blocks ++ (codes " " ++ (decimal bytes ++ (codes " " ++ (decimal heads ++ codes " ")))))

abbrev pub leak_front : ℕ → ℕ → ℕ → List ℕ → List ℕ
leak_front start size line kind =
    codes "leak " ++ (hexadecimal start ++ (codes " " ++ (decimal size ++ (codes " " ++ (decimal line ++ (codes " " ++ (kind ++ codes " ")))))))

abbrev pub caller_line : List ℕ → CallerRow → List ℕ
caller_line log row = caller_front row.blocks row.bytes row.heads ++ text_at log row.caller ++ newline

abbrev pub leak_line : List ℕ → Leak → List ℕ
leak_line log l = leak_front l.block.start l.block.size l.block.line (kind_of l.head) ++ text_at log l.block.caller ++ newline
