-- From the lemmas.
use Rattle.leak_laws.proofs.HeldRunLemmas.{grow_runs_are_one, holders_runs_are_one, why_runs_are_one}
use Rattle.leak_laws.proofs.runs.other_runs_are_one.Goals as goal

pub returns : goal.returns
returns c = record { holders = holders_runs_are_one; growth = grow_runs_are_one; why = why_runs_are_one }
