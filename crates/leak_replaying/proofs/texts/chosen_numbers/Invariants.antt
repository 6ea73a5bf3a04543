-- Those at the places so far.
use Rattle.std.proofs.Common.{◌≡◌, map, take}
use Rattle.std.specs.Prelude.{slice_index_or}
use Rattle.leak_replaying.proofs.texts.chosen_numbers.Given as goal

abbrev pub invariant-loop-k : goal.invariant-loop-k
invariant-loop-k l = l.narrow.items ≡ map (λ k. slice_index_or l.numbers k 0) (take l.k-index l.chosen)
