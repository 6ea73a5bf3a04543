-- From the lemmas of InputLemmas.
use Rattle.std.proofs.Common.{◌∙◌, sym, ap, not}
use Rattle.std.specs.List.{count_by}
use Rattle.leak_search.proofs.InputLemmas.{leaked_count}
use Rattle.leak_search.proofs.reporting.found_of.Goals as goal

pub returns-clause-leaked : goal.returns-clause-leaked
returns-clause-leaked c = c.count_clear.ensures ∙ ap (count_by not) c.as_slice-set.ensures.value ∙ sym (leaked_count _ _ c.requires.one_each)
