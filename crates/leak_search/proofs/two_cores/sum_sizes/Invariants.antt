-- The sum of the sizes so far.
use Rattle.std.proofs.Common.{◌≡◌, take}
use Rattle.leak_search.specs.SearchTwo.{size_of}
use Rattle.leak_search.proofs.two_cores.sum_sizes.Given as goal

abbrev pub invariant-loop-number : goal.invariant-loop-number
invariant-loop-number l = l.bytes ≡ size_of l.blocks (take l.number-index l.numbers)
