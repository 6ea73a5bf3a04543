-- From the lemmas of EndLemmas.
use Rattle.std.proofs.Common.{◌∙◌, ◌+◌, take, get_or, arith}
use Rattle.leak_pool.proofs.EndLemmas.{start_more}
use Rattle.std.proofs.lemmas.List.{take_more}
use Rattle.leak_pool.proofs.marking_by_rounds.claim_start.Goals as goal

pub loop-block-preserved : goal.loop-block-preserved
loop-block-preserved c =
    let i = c.loop-block.invariant in
    let s = start_more (take c.loop-block.block-index c.args.start.now) (take (c.loop-block.block-index + 1) c.args.start.now) (get_or c.args.start.now c.loop-block.block-index 0) c.claim.result c.loop-block.seat c.claim.new.seat
    (take_more c.args.start.now c.loop-block.block-index 0 (omega arith)) i.claims i.seen c.claim.ensures.won c.claim.ensures.lost in
    record { table = c.claim.ensures.table ∙ i.table; share = s.0 ∙ i.share; sound = c.claim.ensures.sound; claims = s.1; seen = s.2 }
