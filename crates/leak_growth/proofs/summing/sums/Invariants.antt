-- The sums of the blocks so far.
use Rattle.std.proofs.Common.{◌≡◌, take}
use Rattle.leak_report.specs.Numbered.{bytes_each}
use Rattle.leak_growth.specs.Rows.{sums_of}
use Rattle.leak_growth.proofs.summing.sums.Given as goal

abbrev pub invariant-loop-i : goal.invariant-loop-i
invariant-loop-i l = l.sums.items ≡ sums_of l.log (take l.i l.blocks) l.after (bytes_each l.texts)
