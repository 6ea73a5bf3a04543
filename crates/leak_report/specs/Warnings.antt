-- The warnings of a search (own rule), each a line: signs that a core and its log don't belong together.
use Rattle.std.specs.Prelude.{ℕ, ◌+◌, List, [], ◌++◌, flat_map, codes, decimal, ◌==◌, if◌then◌else◌}
use Rattle.std.specs.List.{enumerate_from}
use Rattle.leak_report.specs.declared.signs.Signs.{Signs}
use Rattle.leak_report.specs.Lines.{newline}

-- a warning of the input with the number
abbrev pub warning_line : ℕ → List ℕ → List ℕ
warning_line input text = codes "leak_find: warning: input " ++ (decimal input ++ (codes ": " ++ (text ++ newline)))

abbrev pub no_block_text : List ℕ
no_block_text = codes "no live block: the log shows no allocation that was kept"

abbrev pub torn_text : List ℕ
torn_text = codes "the log ends inside a line: its last calls are missing"

abbrev pub unknown_text : ℕ → List ℕ
unknown_text unknown =
    decimal unknown ++ codes " give-backs of blocks that were not live: tracing began late, or lines are missing"

abbrev pub displaced_text : ℕ → List ℕ
displaced_text displaced =
    decimal displaced ++ codes " allocations over a live block: lines are missing or out of order"

abbrev pub misfits_text : ℕ → ℕ → List ℕ
misfits_text misfits live =
    decimal misfits ++ (codes " of " ++ (decimal live
    ++ codes " live blocks have no chunk of their size in use in the core: the log is of another moment, or of another process"))

-- a log without a live block
abbrev pub no_block_line : ℕ → ℕ → List ℕ
no_block_line input live = if live == 0 then warning_line input no_block_text else []

-- only if the number of what is odd is above 0
abbrev pub torn_line : ℕ → ℕ → List ℕ
torn_line input torn = if torn == 0 then [] else warning_line input torn_text

abbrev pub unknown_line : ℕ → ℕ → List ℕ
unknown_line input unknown = if unknown == 0 then [] else warning_line input (unknown_text unknown)

abbrev pub displaced_line : ℕ → ℕ → List ℕ
displaced_line input displaced = if displaced == 0 then [] else warning_line input (displaced_text displaced)

abbrev pub misfits_line : ℕ → ℕ → ℕ → List ℕ
misfits_line input misfits live = if misfits == 0 then [] else warning_line input (misfits_text misfits live)

-- the warnings of the input with the number
abbrev pub input_warnings : ℕ → Signs → List ℕ
input_warnings input s =
    no_block_line input s.live ++ torn_line input s.torn ++ unknown_line input s.unknown
    ++ displaced_line input s.displaced ++ misfits_line input s.misfits s.live

-- those of all inputs in order, which are numbered from 1
unfoldable pub warnings_of : List Signs → List ℕ
warnings_of signs = flat_map (λ s. input_warnings (s.0 + 1) s.1) (enumerate_from 0 signs)
