-- The blocks so far were put on the stack.
use Rattle.std.proofs.Common.{◌≡◌, ◌++◌, take, vec_capacity}
use Rattle.leak_pool.proofs.hand.put_away.Given as goal

abbrev pub invariant-loop-block : goal.invariant-loop-block
invariant-loop-block l = (l.stack.items ≡ l.initial.stack.items ++ take l.block-index l.fitting) × (vec_capacity l.stack ≡ vec_capacity l.initial.stack)
