-- The lists are the same but for what was read of them.
use Rattle.std.proofs.Common.{◌≡◌, map}
use Rattle.leak_pool.proofs.edges.read_ahead.Given as goal

abbrev pub invariant-loop-list : goal.invariant-loop-list
invariant-loop-list l = map (λ x. x.targets.now) l.lists ≡ map (λ x. x.targets.now) l.initial.lists
