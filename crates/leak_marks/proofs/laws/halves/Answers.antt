-- From the lemmas of ListLemmas, HalfLemmas and RoundLemmas.
use Rattle.std.proofs.Common.{◌++◌}
use Rattle.leak_marks.specs.Lists.{Has}
use Rattle.leak_marks.proofs.ListLemmas.{has_front, has_back, of_append}
use Rattle.leak_marks.proofs.HalfLemmas.{kept_beside, kept_in_turn}
use Rattle.leak_marks.proofs.RoundLemmas.{in_rounds}
use Rattle.leak_marks.proofs.laws.halves.Goals as goal

pub returns-clause-beside : goal.returns-clause-beside
returns-clause-beside c targets lower upper = kept_beside targets (Has lower) (Has upper) (Has (lower ++ upper)) (has_front lower upper) (has_back lower upper) (of_append lower upper)

pub returns-clause-in_turn : goal.returns-clause-in_turn
returns-clause-in_turn c targets lower upper = kept_in_turn targets (Has lower) (Has upper) (Has (lower ++ upper)) (has_front lower upper) (has_back lower upper) (of_append lower upper)

pub returns-clause-rounds : goal.returns-clause-rounds
returns-clause-rounds c targets items = in_rounds targets (Has items)
