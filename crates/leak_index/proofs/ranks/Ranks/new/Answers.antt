-- One block more is taken in, and in the end all are.
use borrow.Author.Count.{below_more}
use Rattle.std.proofs.Common.{◌≡◌, ℕ, ◌%◌, length, subst, arith}
use Rattle.leak_index.specs.Ranks.{AreRanked, none, start_of}
use Rattle.leak_index.proofs.Near.{ascending}
use Rattle.leak_index.proofs.ranks.Ranks.new.Goals as goal

pub loop-number-preserved : goal.loop-number-preserved
loop-number-preserved c = record {
  aligned = below_more (λ k. start_of c.args.blocks.now k % 16 ≡ 0) c.loop-number.number c.loop-number.invariant.aligned (omega (arith, c.if-start-ne0.false));
  made = c.in_ok-add.ensures.0;
  rest = λ k h l. omega (arith, c.in_ok-add.ensures.1, ascending c.args.blocks.now c.requires.disjoint c.loop-number.number k none (omega arith) l);
}

pub returns : goal.returns
returns c =
    let all : c.loop-number.number ≡ length c.args.blocks.now = omega arith in (
      record { each = λ k l. c.loop-number.invariant.aligned k (omega (arith, l, all)) },
      subst (λ (n : ℕ). AreRanked c.args.blocks.now n c.loop-number.ranks.numbers.items c.loop-number.ranks.places.items c.loop-number.ranks.rows.items) all c.loop-number.invariant.made.ranked,
    )
