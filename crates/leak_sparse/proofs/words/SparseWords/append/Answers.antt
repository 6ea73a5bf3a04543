-- The groups so far are full, and each of the other's counts the words kept so far.
use Rattle.std.proofs.Common.{◌∙◌, ℕ, ◌/◌, List, ◌++◌, take, ap, ap₂}
use Rattle.leak_sparse.specs.declared.group.Group.{Group}
use Rattle.leak_sparse.proofs.AppendLemmas.{append_are, append_words, full, is_both}
use Rattle.leak_sparse.proofs.words.SparseWords.append.Goals as goal

pub invariant_of-self-2 : goal.invariant_of-self-2
invariant_of-self-2 c =
    let groups = c.self.inside.groups.items in
    let more = c.other.inside.groups.items in
    let now = c.add_groups.new.groups.items in
    let kept = c.self.inside.kept.items in
    let after = c.other.inside.kept.items in
    let len = c.self.inside.len in
    let cut = c.truncate.ensures.items ∙ ap (λ (gs : List Group). take (len / 64) gs) c.reserve.ensures.items in
    let is = is_both groups c.truncate.new.self.items more c.as_slice-2.result.now now kept len c.len-before.result c.add_groups.ensures cut (c.len-before.ensures ∙ c.self.inside.kept.ok.0) c.as_slice-2.ensures.value in
    let words = c.in_ok-extend_from_slice.ensures.items ∙ ap (λ (ws : List ℕ). kept ++ ws) c.as_slice.ensures.value in
    append_are groups more now kept after c.extend_from_slice.new.self.items len c.other.inside.len c.in-Some.len c.self.invariant c.other.invariant
    (full groups kept len c.args.self.now c.self.view_is c.requires) is words c.in-Some.ensures.1

pub returns-clause-ok : goal.returns-clause-ok
returns-clause-ok c =
    let groups = c.self.inside.groups.items in
    let more = c.other.inside.groups.items in
    let now = c.add_groups.new.groups.items in
    let kept = c.self.inside.kept.items in
    let after = c.other.inside.kept.items in
    let len = c.self.inside.len in
    let cut = c.truncate.ensures.items ∙ ap (λ (gs : List Group). take (len / 64) gs) c.reserve.ensures.items in
    let is = is_both groups c.truncate.new.self.items more c.as_slice-2.result.now now kept len c.len-before.result c.add_groups.ensures cut (c.len-before.ensures ∙ c.self.inside.kept.ok.0) c.as_slice-2.ensures.value in
    let words = c.in_ok-extend_from_slice.ensures.items ∙ ap (λ (ws : List ℕ). kept ++ ws) c.as_slice.ensures.value in
    append_words groups more now kept after c.extend_from_slice.new.self.items len c.other.inside.len c.in-Some.len c.self.invariant c.other.invariant
    (full groups kept len c.args.self.now c.self.view_is c.requires) is words c.in-Some.ensures.1
    ∙ ap₂ (λ (first second : List ℕ). first ++ second) c.self.view_is c.other.view_is
