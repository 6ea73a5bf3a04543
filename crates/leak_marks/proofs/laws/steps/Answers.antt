-- From the lemmas of RoundLemmas and HalfLemmas.
use Rattle.leak_marks.specs.Lists.{Has}
use Rattle.leak_marks.proofs.RoundLemmas.{begins, goes_on, ends, steps_make_a_run}
use Rattle.leak_marks.proofs.HalfLemmas.{rounds_make_a_run}
use Rattle.leak_marks.proofs.laws.steps.Goals as goal

pub returns-clause-begins : goal.returns-clause-begins
returns-clause-begins c = begins

pub returns-clause-goes_on : goal.returns-clause-goes_on
returns-clause-goes_on c graph workers items claims gained left waiting later before after u k n = goes_on graph workers (Has items) claims gained left waiting later before after u k n

pub returns-clause-ends : goal.returns-clause-ends
returns-clause-ends c = ends

pub returns-clause-all : goal.returns-clause-all
returns-clause-all c = steps_make_a_run

pub returns-clause-rounds : goal.returns-clause-rounds
returns-clause-rounds c = rounds_make_a_run
