-- The lines of the report (own rule). Numbers are decimal, and a growth below 0 has a minus sign.
use Rattle.std.specs.Prelude.{ℕ, ◌-◌, List, ◌++◌, codes, decimal, nat_lt, if◌then◌else◌}
use Rattle.leak_report.specs.Lines.{newline}
use Rattle.leak_growth.specs.declared.rows.Row.{Row}
use Rattle.leak_growth.specs.declared.summing.Sizes.{Sizes}
use Rattle.leak_growth.specs.Rows.{Growth}

-- what is odd about a log
abbrev pub counts_line : ℕ → ℕ → ℕ → List ℕ
counts_line unknown displaced torn =
    codes "unknown " ++ (decimal unknown ++ (codes " displaced " ++ (decimal displaced ++ (codes " torn " ++ (decimal torn ++ newline)))))

-- by how much bytes grew
abbrev pub growth_of : ℕ → ℕ → List ℕ
growth_of earlier later = if nat_lt later earlier then codes "-" ++ decimal (earlier - later) else decimal (later - earlier)

-- a row up to its text
abbrev pub growth_front : Sizes → Sizes → Sizes → List ℕ
growth_front earlier later new =
    codes "grew " ++ growth_of earlier.bytes later.bytes ++ (codes " " ++ (decimal earlier.blocks ++ (codes " " ++ (decimal earlier.bytes ++ (codes " " ++ (decimal later.blocks
    ++ (codes " " ++ (decimal later.bytes ++ (codes " " ++ (decimal new.blocks ++ (codes " " ++ (decimal new.bytes ++ codes " "))))))))))))

abbrev pub growth_line : Growth → List ℕ
growth_line g = growth_front g.earlier g.later g.new ++ g.text ++ newline

-- ---- as the program has them

abbrev pub row_front : Row → List ℕ
row_front row = growth_front row.earlier row.later row.new

abbrev pub row_line : Row → List ℕ
row_line row = row_front row ++ row.text.now ++ newline
