-- From the lemmas of Held of leak_scan, and of HeadLemmas.
use Rattle.std.proofs.Common.{◌≡◌, ◌∙◌, ◌+◌, ◌<◌, ℕ, Bool, List, drop, get_or, length, ap, sym, arith}
use Rattle.leak_blocks.specs.declared.block.Block.{Block}
use Rattle.leak_scan.specs.Dropped.{after_blocks, after_targets}
use Rattle.leak_scan.proofs.Held.{leaked_block, marked_block, next_block}
use Rattle.leak_pool.proofs.HeadLemmas.{list_of}
use Rattle.leak_pool.proofs.ScopeLemmas.{long_all}
use Rattle.leak_pool.proofs.listing_heads.drop_held.Goals as goal
use Rattle.leak_pool.proofs.listing_heads.drop_held.Goals.{then-not-set-block, else-not-set-block}

pub loop-block-preserved : goal.loop-block-preserved
loop-block-preserved g c word_at index same b =
    let nothing : Block = record { start = 0; size = 0; line = 0; caller = (0, 0) } in
    let k = c.loop-block.block in
    let targets : List (List ℕ) = g.E.HasEdges.targets c.args.edges.now in
    let below : k < length targets = let t = c.loop-block-test.true in let e = c.blocks-block-end.ensures in omega (arith, t, e) in
    let long = ap (λ (ls : List (List ℕ)). length ls) same ∙ long_all word_at index in
    let there : k < length index.blocks = omega (arith, below, long) in
    let marked : k < length c.args.set.now = let o = c.requires.one_each in omega (arith, below, o) in
    let rest : List Block = drop (k + 1) index.blocks in
    let next = ap (λ (bs : List Block). after_blocks word_at index c.args.set.now c.loop-block.heads k bs b) (sym (next_block index.blocks k nothing there)) ∙ c.loop-block.invariant word_at index same b in
    elim c.if-not-set-block.branch [
      | then-not-set-block w ↦
          ap (λ (hs : List Bool). after_blocks word_at index c.args.set.now hs (k + 1) rest b) w.heads-is
          ∙ leaked_block word_at index c.args.set.now c.loop-block.heads w.drop_targets.new.heads k (get_or index.blocks k nothing) rest b marked w.if-not-set-block.true
          (w.drop_targets.ensures b ∙ ap (λ (ts : List ℕ). after_targets c.loop-block.heads k ts b) (w.targets.ensures ∙ list_of word_at index targets k nothing same below))
          ∙ next
      | else-not-set-block w ↦
          ap (λ (hs : List Bool). after_blocks word_at index c.args.set.now hs (k + 1) rest b) w.heads-is
          ∙ marked_block word_at index c.args.set.now c.loop-block.heads k (get_or index.blocks k nothing) rest b marked w.if-not-set-block.false
          ∙ next
    ]
