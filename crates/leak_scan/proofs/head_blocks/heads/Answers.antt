-- From the lemmas of Held.
use Rattle.std.proofs.Common.{◌≡◌, length, map, not, Bool, drop, ap, sym, ◌∙◌, List, arith}
use Rattle.std.proofs.lemmas.List.{length-map}
use Rattle.leak_blocks.specs.declared.block.Block.{Block}
use Rattle.leak_scan.specs.Dropped.{after_blocks}
use Rattle.leak_scan.proofs.Held.{heads_left, written}
use Rattle.leak_scan.proofs.head_blocks.heads.Goals as goal

pub returns : goal.returns
returns g c =
    let word_at = g.W.Words.word_at c.args.words.now in
    let index = g.L.Lookup.index c.args.lookup.now in
    let unmarked : c.as_mut_slice.result.now ≡ map not c.args.set.now = c.as_mut_slice.ensures.value ∙ c.in_ok-heads.ensures in
    let blocks : c.blocks-2.result.now ≡ index.blocks = c.blocks-2.ensures.value ∙ sym c.requires.same_blocks in
    let long = ap (λ (bs : List Bool). length bs) unmarked in
    written c.drop_held.new.heads (drop (length c.drop_held.new.heads) c.in_ok-heads.heads.items) c.in_ok-heads.heads.len (omega (arith, c.as_mut_slice.ensures.len, c.drop_held.auto.heads))
    ∙ heads_left word_at index c.args.set.now c.drop_held.new.heads (c.requires.one_each ∙ ap (λ (bs : List Block). length bs) (sym c.requires.same_blocks))
    (omega (arith, c.drop_held.auto.heads, long, length-map c.args.set.now not))
    (λ b. c.drop_held.ensures b ∙ ap (λ es. after_blocks word_at index c.args.set.now es 0 c.blocks-2.result.now b) unmarked
    ∙ ap (λ bs. after_blocks word_at index c.args.set.now (map not c.args.set.now) 0 bs b) blocks)
