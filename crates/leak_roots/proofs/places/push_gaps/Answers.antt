-- From the lemmas of Gaps and Few.
use Rattle.std.proofs.Common.{length, arith}
use Rattle.std.proofs.lemmas.Result.{on_ok_weaker}
use Rattle.leak_blocks.specs.declared.block.Block.{Block}
use Rattle.leak_roots.specs.Counts.{blocks_up_to}
use Rattle.leak_roots.proofs.Gaps.{filled_first, filled_more, filled_same, filled_all}
use Rattle.leak_roots.proofs.Few.{blocks_grow, gap_first, gap_more, gap_last}
use Rattle.leak_roots.proofs.places.push_gaps.Goals as goal
use Rattle.leak_roots.proofs.places.push_gaps.Goals.{then-block-gt0+in_ok-push_range, else-block-gt0}

no_block : Block
no_block = record { start = 0; size = 0; line = 0; caller = (0, 0) }

pub push_range-requires : goal.push_range-requires
push_range-requires g c = c.loop-i.invariant.filled.low

pub loop-i-init : goal.loop-i-init
loop-i-init g c =
    rw c.saturating_sub-first.ensures (record {
      filled = filled_first (g.T.RangeTest.keeps c.args.test.now) c.args.blocks.now c.args.from c.args.to c.count_up_to.result c.args.kept.now c.requires.blocks c.requires.order c.count_up_to.ensures.bound c.count_up_to.ensures.within c.requires.fits;
      low = omega arith;
      few = gap_first c.args.kept.now.spans.now (length c.args.kept.now.memory.items) (blocks_up_to c.args.blocks.now c.args.from) _ c.args.from c.args.to c.requires.order;
    })

pub loop-i-preserved : goal.loop-i-preserved
unfolding no_block
loop-i-preserved g c =
    elim c.if-block-gt0.branch [
      | then-block-gt0+in_ok-push_range w ↦
          rw (w.kept-is, w.cursor-is, w.max-cursor.ensures) (record {
            filled = filled_more (g.T.RangeTest.keeps c.args.test.now) c.args.from c.args.blocks.now c.args.to _ c.args.kept.now c.loop-i.kept w.push_range.new.kept c.loop-i.i c.loop-i.cursor no_block c.requires.blocks (omega arith) w.if-block-gt0.true
                (c.count_up_to-end.ensures.within c.loop-i.i no_block c.loop-i-test.true) c.loop-i.invariant.filled w.in_ok-push_range.ensures.adds w.in_ok-push_range.ensures.fits;
            low = let l = c.loop-i.invariant.low in omega (arith, l);
            few = gap_more c.args.kept.now.spans.now (length c.args.kept.now.memory.items) (length c.loop-i.kept.memory.items) (length w.push_range.new.kept.memory.items) (blocks_up_to c.args.blocks.now c.args.from) c.loop-i.i _ _ c.loop-i.cursor c.args.from c.args.to
                c.loop-i.invariant.few (rw c.loop-i.invariant.filled.same at w.in_ok-push_range.ensures.few) c.loop-i.invariant.low (c.count_up_to-end.ensures.within c.loop-i.i no_block c.loop-i-test.true)
                (λ h. c.count_up_to.ensures.within c.loop-i.i no_block (let n = c.count_up_to.ensures.count in omega (arith, n, h)));
          })
      | else-block-gt0 w ↦ rw (w.kept-is, w.cursor-is) (record {
        filled = filled_same (g.T.RangeTest.keeps c.args.test.now) c.args.from c.args.blocks.now c.args.to _ c.args.kept.now c.loop-i.kept c.loop-i.i c.loop-i.cursor no_block (omega arith) (omega arith) c.loop-i.invariant.filled;
        low = c.loop-i.invariant.low;
        few = let f = c.loop-i.invariant.few in omega (arith, f);
      })
    ]

pub returns-clause-adds : goal.returns-clause-adds
returns-clause-adds g c =
    on_ok_weaker c.push_range-2.result
    (filled_all (g.T.RangeTest.keeps c.args.test.now) c.args.from c.args.blocks.now c.args.to _ c.args.kept.now c.loop-i.kept c.push_range-2.new.kept c.loop-i.i c.loop-i.cursor no_block c.loop-i.invariant.filled (λ k l m. let b = c.count_up_to-end.ensures.beyond k no_block (omega arith) m in omega arith))
    c.push_range-2.ensures.adds

pub returns-clause-fits : goal.returns-clause-fits
returns-clause-fits g c = on_ok_weaker c.push_range-2.result (λ before. before c.args.to (omega arith) c.loop-i.invariant.filled.high) c.push_range-2.ensures.fits

pub returns-clause-few : goal.returns-clause-few
returns-clause-few g c =
    on_ok_weaker c.push_range-2.result
    (λ one.
    let last = gap_last c.args.kept.now.spans.now (length c.args.kept.now.memory.items) (length c.loop-i.kept.memory.items) (length c.push_range-2.new.kept.memory.items) (blocks_up_to c.args.blocks.now c.args.from) c.loop-i.i c.loop-i.cursor c.args.from c.args.to
    c.loop-i.invariant.few (rw c.loop-i.invariant.filled.same at one) in
    let g = blocks_grow c.args.blocks.now c.args.from c.args.to c.requires.order in let n = c.count_up_to.ensures.count in let m = c.count_up_to-end.ensures.count in omega (arith, last, g, n, m))
    c.push_range-2.ensures.few
