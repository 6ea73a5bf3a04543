-- The lines of the misfits among the blocks so far.
use Rattle.std.proofs.Common.{◌≡◌, ◌++◌, take, flat_map}
use Rattle.leak_report.specs.Misfits.{misfits_in, misfit_line}
use Rattle.leak_report.specs.Sites.{bytes_at, sited}
use Rattle.leak_report.proofs.misfits.push_each.Given as goal

abbrev pub invariant-loop-i : goal.invariant-loop-i
invariant-loop-i l = l.out.items
    ≡ l.initial.out.items ++ flat_map (misfit_line (bytes_at l.callers)) (misfits_in (take l.i l.fits) (take l.i (sited l.callers l.blocks)))
