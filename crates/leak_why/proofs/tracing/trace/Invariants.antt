-- The links lead back from the last entry to the one that is looked at, which is this many steps nearer to the roots.
use Rattle.std.proofs.Common.{◌≡◌, ℕ, ◌+◌, ◌<◌, Some, slice_get, length}
use Rattle.leak_why.specs.declared.reached_block.ReachedBlock.{ReachedBlock}
use Rattle.leak_why.specs.ReachedBlocks.{AreLinks, IsAt}
use Rattle.leak_why.proofs.tracing.trace.Given as goal

abbrev pub invariant-back : goal.invariant-back
invariant-back g l = record {
  inside : l.at < length l.entries;
  led : (e x : ReachedBlock) → slice_get l.entries l.last ≡ Some e → slice_get l.entries l.at ≡ Some x → AreLinks (g.W.Words.word_at l.words) (g.L.Lookup.index l.lookup) e.block l.links.items x.block;
  steps : (d : ℕ) → IsAt l.entries d l.at → IsAt l.entries (length l.links.items + d) l.last;
}

abbrev pub decreases-back : goal.decreases-back
decreases-back g l = l.at
