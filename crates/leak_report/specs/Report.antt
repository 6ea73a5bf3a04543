-- The whole report (own rule).
use Rattle.std.specs.Prelude.{ℕ, Bool, List, ◌++◌, flat_map, codes, Option}
use Rattle.leak_blocks.specs.declared.block.Block.{Block}
use Rattle.leak_report.specs.declared.head.Head.{Head}
use Rattle.leak_report.specs.Totals.{marked_in, leaked_in, leaks_in, heads_in, rows_of}
use Rattle.leak_report.specs.Lines.{blocks_line, undumped_line, log_line, freed_lines, dead_lines, two_lines, heads_line, caller_line, leak_line}
use Rattle.leak_report.specs.Misfits.{misfit_sums, misfit_lines}

-- the lines before those of callers and leaked blocks
abbrev pub sums_of : Head → List Block → List Bool → List Bool → List ℕ
sums_of head blocks set heads =
    blocks_line (codes "blocks") blocks ++ undumped_line head ++ log_line head ++ freed_lines head.freed ++ dead_lines head.dead
    ++ two_lines head.two
    ++ blocks_line (codes "marked") (marked_in set blocks) ++ blocks_line (codes "leaked") (leaked_in set blocks)
    ++ heads_line (heads_in (leaks_in set heads blocks))

-- The report of the live blocks, the marked set and the heads, with the numbers of the head. Misfits are told if it is
-- given which blocks fit.
unfoldable pub text_of : Head → List Block → List Bool → List Bool → Option (List Bool) → List ℕ → List ℕ
text_of head blocks set heads fits log =
    let leaks = leaks_in set heads blocks in
    sums_of head blocks set heads ++ misfit_sums fits blocks ++ flat_map (caller_line log) (rows_of log leaks)
    ++ flat_map (leak_line log) leaks ++ misfit_lines log fits blocks
