-- From the lemmas of SumLemmas.
use Rattle.std.proofs.Common.{◌≡◌, ◌∙◌, ℕ, ap, arith}
use Rattle.std.proofs.lemmas.Bool.{lt-ltb, le-ltb}
use Rattle.leak_blocks.specs.declared.block.Block.{Block}
use Rattle.leak_growth.specs.declared.summing.Sizes.{Sizes}
use Rattle.leak_growth.specs.Rows.{with_block}
use Rattle.leak_growth.proofs.SumLemmas.{sum_more, sum_stays, sum_has_room}
use Rattle.leak_growth.proofs.summing.sum_of.Goals as goal

no_block : Block
no_block = record { start = 0; size = 0; line = 0; caller = (0, 0) }

pub longer-sum-requires-clause-blocks : goal.longer-sum-requires-clause-blocks
unfolding no_block
longer-sum-requires-clause-blocks c =
    let room = sum_has_room c.args.blocks.now c.args.after c.loop-block.block-index no_block c.loop-block-test.true (lt-ltb _ _ c.if-after-block.true) c.requires (omega arith) in
    omega (arith, room.0, ap (λ (z : Sizes). z.blocks) c.loop-block.invariant)

pub longer-sum-requires-clause-bytes : goal.longer-sum-requires-clause-bytes
unfolding no_block
longer-sum-requires-clause-bytes c =
    let room = sum_has_room c.args.blocks.now c.args.after c.loop-block.block-index no_block c.loop-block-test.true (lt-ltb _ _ c.if-after-block.true) c.requires (omega arith) in
    omega (arith, room.1, ap (λ (z : Sizes). z.bytes) c.loop-block.invariant)
