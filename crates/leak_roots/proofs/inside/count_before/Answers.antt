-- From the lemmas of LeftOut.
use Rattle.leak_roots.proofs.Spans.{past_more, later_last}
use Rattle.leak_roots.proofs.inside.count_before.Goals as goal

pub loop-count-init : goal.loop-count-init
loop-count-init c = record {
  bound = c.are_past.ensures.bound c.if-not-are_past.false;
  within = c.are_past.ensures.within c.if-not-are_past.false;
}

pub loop-count-preserved : goal.loop-count-preserved
loop-count-preserved c =
    past_more c.args.spans.now c.loop-count.count c.args.addr (record { first = 0; last = 0 }) c.loop-count.invariant c.loop-count-test.true c.if-spans-count.true

pub returns-else-spans-count-clause-within : goal.returns-else-spans-count-clause-within
returns-else-spans-count-clause-within c = c.loop-count.invariant.within

pub returns-else-spans-count-clause-beyond : goal.returns-else-spans-count-clause-beyond
returns-else-spans-count-clause-beyond c =
    later_last c.args.spans.now c.loop-count.count c.args.addr (record { first = 0; last = 0 }) c.requires c.if-spans-count.false

pub returns-after-loop-count-clause-bound : goal.returns-after-loop-count-clause-bound
returns-after-loop-count-clause-bound c = c.loop-count.invariant.bound

pub returns-after-loop-count-clause-within : goal.returns-after-loop-count-clause-within
returns-after-loop-count-clause-within c = c.loop-count.invariant.within
