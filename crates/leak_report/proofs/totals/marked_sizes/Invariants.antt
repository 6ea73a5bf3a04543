-- The marked blocks so far, by number and size.
use Rattle.std.proofs.Common.{◌≡◌, ◌+◌, length, drop}
use Rattle.leak_report.specs.Totals.{marked_in, bytes_of}
use Rattle.leak_report.proofs.totals.marked_sizes.Given as goal

-- with those of the blocks that are left, they are those of all
abbrev pub invariant-loop-i : goal.invariant-loop-i
invariant-loop-i l =
    (l.number + length (marked_in (drop l.i l.set) (drop l.i l.blocks)) ≡ length (marked_in l.set l.blocks))
    × (l.bytes + bytes_of (marked_in (drop l.i l.set) (drop l.i l.blocks)) ≡ bytes_of (marked_in l.set l.blocks))
