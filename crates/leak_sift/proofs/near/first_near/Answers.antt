-- The place is far behind the start of the block.
use Rattle.std.proofs.Common.{◌+◌, ◌-◌, ◌≤◌, arith}
use Rattle.leak_sift.proofs.NearLemmas.{at}
use Rattle.leak_sift.proofs.NearBitLemmas.{off_before}
use Rattle.leak_sift.proofs.near.first_near.Goals as goal

pub returns-then-saturating_sub-ge-FARTHEST-clause-off :
    goal.returns-then-saturating_sub-ge-FARTHEST-clause-off
returns-then-saturating_sub-ge-FARTHEST-clause-off c links =
    let first = c.loop-first.first - 1 in
    let behind : (at c.args.blocks.now first).start + 56 ≤ c.args.place = omega arith in
    off_before c.args.blocks.now links c.args.place first c.requires.disjoint (omega arith) behind
