-- The lines of a report that tell misfits (own rule): live blocks of which the core has no chunk in use. They are told
-- only if that is asked for. An entry for each block says whether it fits.
use Rattle.std.specs.Prelude.{ℕ, Bool, true, false, List, [], ◌∷◌, ◌++◌, length, flat_map, codes, decimal, Option, Some, None}
use Rattle.leak_blocks.specs.declared.block.Block.{Block}
use Rattle.leak_report.specs.Totals.{text_at}
use Rattle.leak_report.specs.Lines.{newline, hexadecimal}

-- the blocks that don't fit
abbrev pub misfits_in : List Bool → List Block → List Block
misfits_in [] blocks = []
misfits_in (f ∷ fits) [] = []
misfits_in (true ∷ fits) (b ∷ blocks) = misfits_in fits blocks
misfits_in (false ∷ fits) (b ∷ blocks) = b ∷ misfits_in fits blocks

-- the line of their number
abbrev pub number_line : ℕ → List ℕ
number_line misfits = codes "misfits " ++ (decimal misfits ++ newline)

-- a misfit's line, up to the text of its caller, and all of it
abbrev pub misfit_front : ℕ → ℕ → ℕ → List ℕ
misfit_front start size line =
    codes "misfit " ++ (hexadecimal start ++ (codes " " ++ (decimal size ++ (codes " " ++ (decimal line ++ codes " ")))))

abbrev pub misfit_line : List ℕ → Block → List ℕ
misfit_line log b = misfit_front b.start b.size b.line ++ text_at log b.caller ++ newline

-- among the first lines of a report, and at its end
abbrev pub misfit_sums : Option (List Bool) → List Block → List ℕ
misfit_sums None blocks = []
misfit_sums (Some fits) blocks = number_line (length (misfits_in fits blocks))

abbrev pub misfit_lines : List ℕ → Option (List Bool) → List Block → List ℕ
misfit_lines log None blocks = []
misfit_lines log (Some fits) blocks = flat_map (misfit_line log) (misfits_in fits blocks)
