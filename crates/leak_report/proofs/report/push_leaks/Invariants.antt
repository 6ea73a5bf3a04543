-- The lines of the leaked blocks among those so far.
use Rattle.std.proofs.Common.{◌≡◌, ◌++◌, take, flat_map}
use Rattle.leak_report.specs.Lines.{leak_line}
use Rattle.leak_report.specs.Sites.{bytes_at, sited}
use Rattle.leak_report.specs.Totals.{leaks_in}
use Rattle.leak_report.proofs.report.push_leaks.Given as goal

abbrev pub invariant-loop-i : goal.invariant-loop-i
invariant-loop-i l = l.out.items
    ≡ l.initial.out.items ++ flat_map (leak_line (bytes_at l.callers)) (leaks_in (take l.i l.set) (take l.i l.heads) (take l.i (sited l.callers l.blocks)))
