-- From the lemmas of TwoLemmas.
use Rattle.leak_search.proofs.TwoLemmas.{marked_earlier}
use Rattle.leak_search.proofs.two_cores.mark_earlier.Goals as goal

pub returns-clause-marked : goal.returns-clause-marked
returns-clause-marked g c = λ lines read. marked_earlier _ _ lines c.args.input.now _ _ c.in_ok-marked.marked read c.in_ok-indexed.ensures.lookup (c.in_ok-indexed.ensures.roots lines read) c.in_ok-marked.ensures.marks
