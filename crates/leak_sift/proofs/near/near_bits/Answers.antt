-- One block more, up to the first whose size word is past the places.
use Rattle.std.proofs.Common.{arith}
use Rattle.leak_sift.proofs.NearBitLemmas.{near_end, near_start, near_step}
use Rattle.leak_sift.proofs.near.near_bits.Goals as goal

pub loop-next-init : goal.loop-next-init
loop-next-init c = record { within = c.requires.bound; bits = near_start c.args.blocks.now c.args.links c.args.place c.args.first c.requires.off }

pub loop-next-preserved : goal.loop-next-preserved
loop-next-preserved c = record {
  within = omega (arith, c.loop-next-test.true);
  bits = near_step c.args.blocks.now c.args.links c.args.place c.loop-next.bits c.bits_of_block-bits.result c.loop-next.next c.loop-next.invariant.bits c.loop-next-test.true c.bits_of_block-bits.ensures;
}

pub returns-else-saturating_sub-lt512-clause-bits :
    goal.returns-else-saturating_sub-lt512-clause-bits
returns-else-saturating_sub-lt512-clause-bits c =
    near_end c.args.blocks.now c.args.links c.args.place c.loop-next.bits c.loop-next.next c.requires.disjoint c.loop-next.invariant.bits (λ inside. omega arith)

pub returns-after-loop-next-clause-bits : goal.returns-after-loop-next-clause-bits
returns-after-loop-next-clause-bits c =
    near_end c.args.blocks.now c.args.links c.args.place c.loop-next.bits c.loop-next.next c.requires.disjoint c.loop-next.invariant.bits (λ inside. absurd (omega (arith, inside, c.loop-next-test.false)))
