-- The list has a word for each place.
use Rattle.std.proofs.Common.{◌∙◌, ap, sym, length}
use Rattle.leak_sparse.proofs.ViewLemmas.{length_is}
use Rattle.leak_sparse.proofs.words.SparseWords.len.Goals as goal

pub returns : goal.returns
returns c = sym (length_is c.self.inside.groups.items c.self.inside.kept.items c.self.inside.len) ∙ ap length c.self.view_is
