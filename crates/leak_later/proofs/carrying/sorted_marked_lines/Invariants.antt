-- The lines of the marked blocks so far.
use Rattle.std.proofs.Common.{◌≡◌, take}
use Rattle.leak_later.proofs.LineLemmas.{marked_lines}
use Rattle.leak_later.proofs.carrying.sorted_marked_lines.Given as goal

abbrev pub invariant-loop-i : goal.invariant-loop-i
invariant-loop-i l = l.lines.items ≡ marked_lines (take l.i l.marked) (take l.i l.blocks)
