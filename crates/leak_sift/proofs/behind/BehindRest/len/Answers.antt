-- From the lemmas of BehindLemmas.
use Rattle.std.proofs.Common.{◌∙◌, sym, ap, length}
use Rattle.leak_sift.specs.Behind.{words_behind}
use Rattle.leak_sift.proofs.BehindLemmas.{length_behind}
use Rattle.leak_sift.proofs.behind.BehindRest.len.Goals as goal

pub returns-clause-value : goal.returns-clause-value
returns-clause-value c = sym (length_behind (words_behind c.self.inside.words) c.self.inside.len c.self.invariant.words_of.within) ∙ ap length c.self.view_is
