-- From the lemmas of Appended.
use Rattle.std.proofs.Common.{refl, rules}
use Rattle.leak_lemmas.proofs.Lists.{left_whole}
use Rattle.leak_streams.proofs.Appended.{goes_on_few, goes_on_within, is_turn, none_yet, one_more}
use Rattle.leak_streams.proofs.writers.write.Goals as goal

pub loop-now-init : goal.loop-now-init
loop-now-init g c = record {
  within = search rules;
  few = search rules;
  come = none_yet _ _ _ _ refl refl;
}

pub loop-now-preserved : goal.loop-now-preserved
loop-now-preserved g c =
    let turn = is_turn g.W.WriteCalls.calls c.args.text.now c.loop-now.now _ _ _ c.loop-now-test.true c.write_some-answer.ensures.call in
    let bound = rw (left_whole _ _) at c.write_some-answer.ensures.bound in
    record {
      within = goes_on_within _ _ _ _ c.loop-now.invariant.within bound c.in-Some.ensures.goes_on;
      few = goes_on_few _ _ _ c.loop-now.invariant.few c.in-Some.ensures.goes_on;
      come = one_more _ _ _ _ _ _ _ _ c.loop-now.invariant.come turn c.in-Some.ensures.goes_on;
    }
