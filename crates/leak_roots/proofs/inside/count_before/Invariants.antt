-- The spans that were passed end before the address.
use Rattle.std.proofs.Common.{length, ◌-◌}
use Rattle.leak_roots.proofs.Spans.{ArePast}
use Rattle.leak_roots.proofs.inside.count_before.Given as goal

abbrev pub invariant-loop-count : goal.invariant-loop-count
invariant-loop-count l = ArePast l.spans l.count l.addr

abbrev pub decreases-loop-count : goal.decreases-loop-count
decreases-loop-count l = length l.spans - l.count
