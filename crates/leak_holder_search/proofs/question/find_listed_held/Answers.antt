-- From the lemmas of HeldLemmas.
use Rattle.leak_holder_search.proofs.HeldLemmas.{finds_held}
use Rattle.leak_holder_search.proofs.question.find_listed_held.Goals as goal

pub returns-clause-ok : goal.returns-clause-ok
returns-clause-ok g c =
    finds_held _ _ _ c.in_ok-analysis.analysis c.in_ok-analysis.ensures
    c.args.question c.in_ok-choice.choice c.in_ok-held.held _ c.in_ok-choice.ensures.of c.in_ok-choice.ensures.are c.in_ok-held.ensures c.in_ok-report.ensures
