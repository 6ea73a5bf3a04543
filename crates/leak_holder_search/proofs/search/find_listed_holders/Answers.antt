-- From the lemmas of FindLemmas.
use Rattle.leak_holder_search.proofs.FindLemmas.{finds_holders}
use Rattle.leak_holder_search.proofs.search.find_listed_holders.Goals as goal

pub returns-clause-ok : goal.returns-clause-ok
returns-clause-ok g c =
    finds_holders _ _ _ c.in_ok-analysis.analysis c.in_ok-analysis.ensures c.in_ok-rows.rows.items _ c.in_ok-rows.ensures.are
    (rw (← c.as_slice.ensures.value) c.in_ok-report.ensures)
