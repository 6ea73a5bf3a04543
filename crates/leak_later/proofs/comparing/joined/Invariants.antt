-- The lists so far, one after the other.
use Rattle.std.proofs.Common.{◌≡◌, take, flat_map}
use Rattle.leak_later.proofs.comparing.joined.Given as goal

abbrev pub invariant-loop-list : goal.invariant-loop-list
invariant-loop-list l = l.numbers.items ≡ flat_map (λ v. v.items) (take l.list-index l.lists)
