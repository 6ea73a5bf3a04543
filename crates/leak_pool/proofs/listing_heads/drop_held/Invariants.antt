-- With the blocks that are left, the entries come to the same.
use Rattle.std.proofs.Common.{◌≡◌, ℕ, drop, Option}
use Rattle.leak_index.specs.Hits.{Index}
use Rattle.leak_scan.specs.Dropped.{after_blocks}
use Rattle.leak_pool.specs.Scopes.{all_targets}
use Rattle.leak_pool.proofs.listing_heads.drop_held.Given as goal

abbrev pub invariant-loop-block : goal.invariant-loop-block
invariant-loop-block g l = (word_at : ℕ → Option ℕ) (index : Index) → g.E.HasEdges.targets l.edges ≡ all_targets word_at index
    → (b : ℕ) → after_blocks word_at index l.set l.heads l.block (drop l.block index.blocks) b ≡ after_blocks word_at index l.set l.initial.heads 0 index.blocks b
