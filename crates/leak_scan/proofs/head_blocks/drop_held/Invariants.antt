-- With the blocks that are left, the entries come to the same.
use Rattle.std.proofs.Common.{◌≡◌, ℕ, drop}
use Rattle.leak_scan.specs.Dropped.{after_blocks}
use Rattle.leak_scan.proofs.head_blocks.drop_held.Given as goal

abbrev pub invariant-loop-i : goal.invariant-loop-i
invariant-loop-i g l = (b : ℕ) → after_blocks (g.W.Words.word_at l.words) (g.L.Lookup.index l.lookup) l.set l.heads l.i (drop l.i l.blocks) b
    ≡ after_blocks (g.W.Words.word_at l.words) (g.L.Lookup.index l.lookup) l.set l.initial.heads 0 l.blocks b
