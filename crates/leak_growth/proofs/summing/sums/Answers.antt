-- One more block, of a line that counts or of another.
use Rattle.std.proofs.Common.{◌≡◌, ℕ, ◌<◌, ◌^◌, ◌+◌, List, [], take, get_or, set, length, sym, ap, ◌∙◌, arith}
use Rattle.std.proofs.lemmas.Bool.{lt-ltb, le-ltb}
use Rattle.std.proofs.lemmas.List.{take_all}
use Rattle.leak_blocks.specs.declared.block.Block.{Block}
use Rattle.leak_report.specs.Numbered.{bytes_each}
use Rattle.leak_growth.specs.declared.summing.Sizes.{Sizes}
use Rattle.leak_growth.specs.Rows.{sums_of, with_block}
use Rattle.leak_growth.proofs.SumLemmas.{no_sums, number_fits, sums_more, sums_stay, has_room}
use Rattle.leak_growth.proofs.summing.sums.Goals as goal
use Rattle.leak_growth.proofs.summing.sums.Goals.{then-after-block, else-after-block}

no_block : Block
no_block = record { start = 0; size = 0; line = 0; caller = (0, 0) }

pub loop-i-init : goal.loop-i-init
loop-i-init c = c.in_ok-sums.ensures.items_if_clones_equal (λ y e. e) ∙ no_sums c.args.log.now c.args.after c.args.texts.now

pub longer-requires-clause-blocks : goal.longer-requires-clause-blocks
unfolding no_block
longer-requires-clause-blocks c =
    let n : ℕ = get_or c.args.numbers.now c.loop-i.i 0 in
    let is : c.index.result.now ≡ get_or (sums_of c.args.log.now (take c.loop-i.i c.args.blocks.now) c.args.after (bytes_each c.args.texts.now)) n c.index.result.now =
    c.index.ensures ∙ ap (λ (items : List Sizes). get_or items n c.index.result.now) c.loop-i.invariant in
    let room = has_room c.args.log.now c.args.blocks.now c.args.after (bytes_each c.args.texts.now) c.args.numbers.now c.requires.texts c.loop-i.i no_block c.loop-i-test.true c.index.result.now
    (lt-ltb _ _ c.if-after-block.true) c.requires.fits (omega arith) in
    omega (arith, room.0, ap (λ (z : Sizes). z.blocks) is)

pub longer-requires-clause-bytes : goal.longer-requires-clause-bytes
unfolding no_block
longer-requires-clause-bytes c =
    let n : ℕ = get_or c.args.numbers.now c.loop-i.i 0 in
    let is : c.index.result.now ≡ get_or (sums_of c.args.log.now (take c.loop-i.i c.args.blocks.now) c.args.after (bytes_each c.args.texts.now)) n c.index.result.now =
    c.index.ensures ∙ ap (λ (items : List Sizes). get_or items n c.index.result.now) c.loop-i.invariant in
    let room = has_room c.args.log.now c.args.blocks.now c.args.after (bytes_each c.args.texts.now) c.args.numbers.now c.requires.texts c.loop-i.i no_block c.loop-i-test.true c.index.result.now
    (lt-ltb _ _ c.if-after-block.true) c.requires.fits (omega arith) in
    omega (arith, room.1, ap (λ (z : Sizes). z.bytes) is)

pub loop-i-preserved : goal.loop-i-preserved
unfolding no_block
loop-i-preserved c =
    elim c.if-after-block.branch [
      | then-after-block w ↦
          let n : ℕ = get_or c.args.numbers.now c.loop-i.i 0 in
          let block : Block = get_or c.args.blocks.now c.loop-i.i no_block in
          let old : List Sizes = sums_of c.args.log.now (take c.loop-i.i c.args.blocks.now) c.args.after (bytes_each c.args.texts.now) in
          let is : w.index.result.now ≡ get_or old n w.index.result.now = w.index.ensures ∙ ap (λ (items : List Sizes). get_or items n w.index.result.now) c.loop-i.invariant in
          ap (λ v. v.items) w.sums-is ∙ ap (λ (items : List Sizes). set items n w.longer.result) c.loop-i.invariant
          ∙ ap (λ (s : Sizes). set old n s) (w.longer.ensures ∙ ap (λ (z : Sizes). with_block z block) is)
          ∙ sums_more c.args.log.now c.args.blocks.now c.args.after (bytes_each c.args.texts.now) c.args.numbers.now c.requires.texts c.loop-i.i no_block c.loop-i-test.true w.index.result.now
          (lt-ltb _ _ w.if-after-block.true)
      | else-after-block w ↦
          ap (λ v. v.items) w.sums-is ∙ c.loop-i.invariant
          ∙ sums_stay c.args.log.now c.args.blocks.now c.args.after (bytes_each c.args.texts.now) c.args.numbers.now c.requires.texts c.loop-i.i no_block c.loop-i-test.true (le-ltb _ _ w.if-after-block.false)
    ]
