-- From the lemmas of GoingLemmas.
use Rattle.std.proofs.Common.{◌<◌, ◌≤◌, length, arith, rules}
use Rattle.leak_pool.specs.SearchModel.{SearchModel}
use Rattle.leak_pool.specs.declared.marking_state.MarkingState.{MarkingState}
use Rattle.leak_pool.specs.MarkingState.{IsBetweenRounds}
use Rattle.leak_pool.proofs.GoingLemmas.{going_few}
use Rattle.leak_pool.proofs.GateLemmas.{through_one, through_more, gone_through}
use Rattle.leak_pool.proofs.later_rounds.until_none.Goals as goal

few : (model : SearchModel) (p : MarkingState) → IsBetweenRounds model p → length p.seat.claims ≤ length model.targets
few model p between = going_few _ _ _ _ _ _ _ between.going.1

pub overflow_add-rounds : goal.overflow_add-rounds
overflow_add-rounds g c = let i = c.until.invariant in let f = few c.args.search.now c.until.state i.between in let a = i.size in let s = i.between.small in let ne : 0 < length c.until.state.waiting.items = search rules in omega arith

pub until-smaller : goal.until-smaller
until-smaller g c = let i = c.until.invariant in let f = few c.args.search.now c.until.state i.between in let a = i.size in let ne : 0 < length c.until.state.waiting.items = search rules in omega arith

pub returns-clause-rounds : goal.returns-clause-rounds
returns-clause-rounds g c = let i = c.until.invariant in let f = few c.args.search.now c.until.state i.between in let a = i.size in omega arith

pub until-init : goal.until-init
until-init g c = record {
  one = omega arith;
  size = let f = c.requires.between.few in omega arith;
  between = c.requires.between;
  course = through_one (g.G.Gate.passed c.args.gate.now) c.args.search.now c.args.state c.requires.course;
}

pub until-preserved : goal.until-preserved
until-preserved g c = record {
  one = omega arith;
  size = let i = c.until.invariant in let s = c.in_ok-state.ensures.size in let l = i.size in let ne : 0 < length c.until.state.waiting.items = search rules in omega arith;
  between = c.in_ok-state.ensures.between;
  course = through_more (g.G.Gate.passed c.args.gate.now) c.args.search.now c.args.state.steps.items c.until.state c.in_ok-state.state c.until.rounds
      c.in_ok-state.ensures.course c.in_ok-state.ensures.gate c.until.invariant.course;
}

pub returns-clause-course : goal.returns-clause-course
returns-clause-course g c = c.until.invariant.course.0

pub returns-clause-gate : goal.returns-clause-gate
returns-clause-gate g c = λ was. gone_through (g.G.Gate.passed c.args.gate.now) c.args.search.now c.args.state.steps.items c.until.state c.until.rounds c.until.invariant.course was
