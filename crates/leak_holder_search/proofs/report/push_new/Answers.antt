-- From the lemmas of SumLemmas.
use Rattle.leak_blocks.proofs.SumLemmas.{sum_fits}
use Rattle.leak_holder_search.proofs.report.push_new.Goals as goal

pub marked_sizes-count-requires-clause-fits : goal.marked_sizes-count-requires-clause-fits
marked_sizes-count-requires-clause-fits c = sum_fits c.blocks-2.result.now c.blocks-2.ensures.addressed c.blocks-2.ensures.disjoint
