-- From the lemmas of EndsLemmas.
use Rattle.leak_search.proofs.EndsLemmas.{marked_without_ends, marked_in_two_without_ends}
use Rattle.leak_search.proofs.laws.leaked_stay_leaked_without_ends.Goals as goal

pub returns : goal.returns
returns c = record { one = marked_without_ends; two = marked_in_two_without_ends }
