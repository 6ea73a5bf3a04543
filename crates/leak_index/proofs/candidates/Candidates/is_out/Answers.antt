-- Outside the bounds no block is led to.
use Rattle.std.specs.Bool.{passes}
use Rattle.std.proofs.Common.{ltb→lt}
use Rattle.leak_index.specs.Hits.{hits_of}
use Rattle.leak_index.proofs.Near.{none_below, none_above, all_behind, all_before}
use Rattle.leak_index.proofs.candidates.Candidates.is_out.Goals as goal

pub returns-then-word-self : goal.returns-then-word-self
unfolding hits_of
returns-then-word-self c = rw (← c.self.view_is) (λ out. none_below 0 _ _ _ (all_behind _ _ _ c.if-word-self.true c.self.invariant.above))

pub returns-else-word-self : goal.returns-else-word-self
unfolding hits_of
returns-else-word-self c = rw (← c.self.view_is) (λ out. none_above 0 _ _ _ (all_before _ _ _ (ltb→lt _ _ (passes _ out)) c.self.invariant.below))
