-- None of the segments so far has the address.
use Rattle.std.proofs.Common.{◌≡◌, drop}
use Rattle.std.specs.Prelude.{find}
use Rattle.leak_stacks.specs.Stacks.{has_address}
use Rattle.leak_stacks.proofs.first.first_at.Given as goal

abbrev pub invariant-loop-segment : goal.invariant-loop-segment
invariant-loop-segment l = find (has_address l.random) (drop l.segment-index l.segments) ≡ find (has_address l.random) l.segments
