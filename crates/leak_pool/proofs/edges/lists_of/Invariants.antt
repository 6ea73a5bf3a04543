-- The lists are those of the blocks so far.
use Rattle.std.proofs.Common.{◌≡◌, ◌<◌, ℕ, List, length, map, take}
use Rattle.leak_marks.specs.Lists.{Has}
use Rattle.leak_pool.specs.Edges.{AreEdges}
use Rattle.leak_pool.specs.Items.{targets_of_block}
use Rattle.leak_pool.proofs.edges.lists_of.Given as goal

abbrev pub invariant-loop-block : goal.invariant-loop-block
invariant-loop-block l = (targets : List (List ℕ)) → AreEdges targets l.size l.rows → ((b : ℕ) → Has l.blocks b → b < length targets)
    → map (λ x. x.targets.now) l.lists.items ≡ map (targets_of_block targets) (take l.block-index l.blocks)
