-- The answers for the blocks so far.
use Rattle.std.proofs.Common.{◌≡◌, ◌&&◌, false, map}
use Rattle.std.specs.Prelude.{slice_index_or}
use Rattle.std.specs.List.{range_with_len}
use Rattle.leak_holder_search.proofs.choosing.in_both.Given as goal

abbrev pub invariant-loop-b : goal.invariant-loop-b
invariant-loop-b l = l.set.items ≡ map (λ b. slice_index_or l.xs b false && slice_index_or l.ys b false) (range_with_len 0 l.b)
