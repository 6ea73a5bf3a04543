-- From the lemmas of SumLemmas and FindLemmas.
use Rattle.leak_blocks.proofs.SumLemmas.{sum_fits}
use Rattle.leak_holder_search.proofs.FindLemmas.{complete}
use Rattle.leak_holder_search.proofs.analysis.table_of.Goals as goal

pub returns-clause-complete : goal.returns-clause-complete
returns-clause-complete c =
    complete c.args.analysis.now c.requires _ (record { of_blocks = c.blocks-2.ensures.value; of_texts = c.as_slice.ensures.value; reached = c.as_slice-2.ensures.value; counts = c.as_slice-3.ensures.value })
    (sum_fits c.blocks-2.result.now c.blocks-2.ensures.addressed c.blocks-2.ensures.disjoint)
