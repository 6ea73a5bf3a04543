-- The leaked blocks among those so far.
use Rattle.std.proofs.Common.{◌≡◌, take}
use Rattle.leak_report.specs.Totals.{leaks_in}
use Rattle.leak_report.specs.Sites.{sited}
use Rattle.leak_report.proofs.leaked.leaks_of.Given as goal

abbrev pub invariant-loop-i : goal.invariant-loop-i
invariant-loop-i l = l.leaks.items ≡ leaks_in (take l.i l.set) (take l.i l.heads) (take l.i (sited l.callers l.blocks))
