-- The parts of the blocks so far were added.
use Rattle.std.proofs.Common.{◌≡◌, ◌++◌, map, take}
use Rattle.leak_later.proofs.retracing.push_parts.Given as goal

abbrev pub invariant-loop-block : goal.invariant-loop-block
invariant-loop-block l = l.parts.items ≡ l.initial.parts.items ++ map (λ b. (b, l.part)) (take l.block-index l.blocks)
