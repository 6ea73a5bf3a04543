-- From the lemmas of LawLemmas.
use Rattle.leak_search.proofs.LawLemmas.{marked_with_less, marked_in_two_with_less}
use Rattle.leak_search.proofs.laws.leaked_stay_leaked.Goals as goal

pub returns : goal.returns
returns c = record { one = marked_with_less; two = marked_in_two_with_less }
