-- The numbers of the chosen so far.
use Rattle.std.proofs.Common.{◌≡◌, map, slice_index_or, take}
use Rattle.leak_texts.proofs.gathering.gather.Given as goal

abbrev pub invariant-loop-k : goal.invariant-loop-k
invariant-loop-k l = l.gathered.items ≡ map (λ k. slice_index_or l.numbers k 0) (take l.k-index l.chosen)
