-- The lines of the blocks so far.
use Rattle.std.proofs.Common.{◌≡◌, map, take}
use Rattle.leak_later.proofs.carrying.sorted_lines.Given as goal

abbrev pub invariant-loop-block : goal.invariant-loop-block
invariant-loop-block l = l.lines.items ≡ map (λ b. b.line) (take l.block-index l.blocks)
