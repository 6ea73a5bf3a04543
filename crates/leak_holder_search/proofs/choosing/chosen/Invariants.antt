-- The answers for the blocks so far.
use Rattle.std.proofs.Common.{◌≡◌, ◌==◌, map, if◌then◌else◌}
use Rattle.std.specs.Prelude.{slice_index}
use Rattle.std.specs.List.{range_with_len}
use Rattle.leak_holder_search.proofs.choosing.chosen.Given as goal

abbrev pub invariant-loop-b : goal.invariant-loop-b
invariant-loop-b l =
    l.set.items ≡ map (λ b. if l.alone then b == l.block else slice_index l.numbers b == slice_index l.numbers l.block) (range_with_len 0 l.b)
