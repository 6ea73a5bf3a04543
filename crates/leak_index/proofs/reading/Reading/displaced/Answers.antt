-- One more value is listed.
use Rattle.std.proofs.Common.{arith, sym, ◌∙◌}
use Rattle.std.proofs.Math.ListN.{length-set}
use Rattle.std.proofs.lemmas.List.{take_more, take_more_set}
use Rattle.leak_index.proofs.Listed.{position_more}
use Rattle.leak_index.proofs.reading.Reading.displaced.Goals as goal

pub loop-i-preserved : goal.loop-i-preserved
loop-i-preserved c = record {
  room = simp length-set c.loop-i.invariant.room;
  same = take_more_set _ _ _ (omega arith) ∙ rw c.loop-i.invariant.same (sym (take_more c.args.values.now c.loop-i.i 0 c.loop-i-test.true));
  left = position_more c.args.values.now c.loop-i.i c.loop-i-test.true c.if-value-gt65535.false ∙ c.loop-i.invariant.left;
}
