-- From the lemmas of Held.
use Rattle.std.proofs.Common.{◌+◌, drop, get_or, sym, ap, ◌∙◌, arith}
use Rattle.leak_blocks.specs.declared.block.Block.{Block}
use Rattle.leak_scan.specs.Targets.{block_targets}
use Rattle.leak_scan.specs.Dropped.{after_targets, after_blocks}
use Rattle.leak_scan.proofs.Held.{marked_block, leaked_block, next_block}
use Rattle.leak_scan.proofs.head_blocks.drop_held.Goals as goal
use Rattle.leak_scan.proofs.head_blocks.drop_held.Goals.{then-not-set-i, else-not-set-i}

pub loop-i-preserved : goal.loop-i-preserved
unfolding block_targets
loop-i-preserved g c = λ b.
    let nothing : Block = record { start = 0; size = 0; line = 0; caller = (0, 0) } in
    let word_at = g.W.Words.word_at c.args.words.now in
    let index = g.L.Lookup.index c.args.lookup.now in
    let inside = c.loop-i-test.true in
    elim c.if-not-set-i.branch [
      | then-not-set-i w ↦
          ap (λ hs. after_blocks word_at index c.args.set.now hs (c.loop-i.i + 1) (drop (c.loop-i.i + 1) c.args.blocks.now) b) w.heads-is
          ∙ leaked_block word_at index c.args.set.now c.loop-i.heads w.drop_targets.new.heads c.loop-i.i (get_or c.args.blocks.now c.loop-i.i nothing) (drop (c.loop-i.i + 1) c.args.blocks.now) b
          (omega (arith, inside, c.requires.one_each)) w.if-not-set-i.true
          (w.drop_targets.ensures b ∙ ap (λ ts. after_targets c.loop-i.heads c.loop-i.i ts b) w.of_block.ensures)
          ∙ ap (λ bs. after_blocks word_at index c.args.set.now c.loop-i.heads c.loop-i.i bs b) (sym (next_block c.args.blocks.now c.loop-i.i nothing inside))
          ∙ c.loop-i.invariant b
      | else-not-set-i w ↦
          ap (λ hs. after_blocks word_at index c.args.set.now hs (c.loop-i.i + 1) (drop (c.loop-i.i + 1) c.args.blocks.now) b) w.heads-is
          ∙ marked_block word_at index c.args.set.now c.loop-i.heads c.loop-i.i (get_or c.args.blocks.now c.loop-i.i nothing) (drop (c.loop-i.i + 1) c.args.blocks.now) b
          (omega (arith, inside, c.requires.one_each)) w.if-not-set-i.false
          ∙ ap (λ bs. after_blocks word_at index c.args.set.now c.loop-i.heads c.loop-i.i bs b) (sym (next_block c.args.blocks.now c.loop-i.i nothing inside))
          ∙ c.loop-i.invariant b
    ]
