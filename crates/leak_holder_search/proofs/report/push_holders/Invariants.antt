-- The lines of the rows so far.
use Rattle.std.proofs.Common.{◌≡◌, ◌++◌, take, flat_map}
use Rattle.leak_report.specs.Numbered.{bytes_each}
use Rattle.leak_holder_search.specs.Text.{line_of}
use Rattle.leak_holder_search.proofs.report.push_holders.Given as goal

abbrev pub invariant-loop-row : goal.invariant-loop-row
invariant-loop-row l = l.out.items ≡ l.initial.out.items ++ flat_map (line_of l.blocks (bytes_each l.texts)) (take l.row-index l.rows)
