-- Marking is between two rounds, and there were no more rounds than claims and one.
use Rattle.std.proofs.Common.{◌+◌, ◌-◌, ◌≤◌, length}
use Rattle.leak_pool.specs.MarkingState.{IsBetweenRounds, HasCourseThrough}
use Rattle.leak_pool.proofs.later_rounds.until_none.Given as goal

abbrev pub invariant-until : goal.invariant-until
invariant-until g l = record {
  one : 1 ≤ l.rounds;
  size : l.rounds + length l.state.waiting.items ≤ length l.state.seat.claims + 1;
  between : IsBetweenRounds l.search l.state;
  course : HasCourseThrough (g.G.Gate.passed l.gate) l.search l.initial.state.steps.items l.state l.rounds;
}

abbrev pub decreases-until : goal.decreases-until
decreases-until g l = length l.search.targets + 1 - l.rounds
