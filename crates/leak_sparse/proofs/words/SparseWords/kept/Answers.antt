-- A bit is set for each word that is kept.
use Rattle.std.proofs.Common.{◌≡◌, ◌∙◌, ap, sym, length}
use Rattle.leak_sparse.specs.Words.{kept_of}
use Rattle.leak_sparse.proofs.RankLemmas.{rank_all}
use Rattle.leak_sparse.proofs.ViewLemmas.{kept_below}
use Rattle.leak_sparse.proofs.words.SparseWords.kept.Goals as goal

pub returns : goal.returns
returns c =
    let groups = c.self.inside.groups.items in
    let kept = c.self.inside.kept.items in
    let len = c.self.inside.len in
    let count : c.len.result ≡ length kept = c.len.ensures ∙ c.self.inside.kept.ok.0 in
    count ∙ sym (rank_all groups kept len c.self.invariant) ∙ sym (kept_below groups kept len c.self.invariant len) ∙ ap kept_of c.self.view_is
