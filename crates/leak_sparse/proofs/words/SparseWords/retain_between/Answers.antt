-- The bits and the kept words are those of the words that stay.
use Rattle.std.proofs.Common.{◌≡◌, ◌∙◌, ℕ, List, map, filter, take, length, ap, subst, sym}
use Rattle.std.proofs.lemmas.List.{with_items_is}
use Rattle.std.specs.Vec.{with_items}
use Rattle.leak_sparse.specs.declared.group.Group.{Group}
use Rattle.leak_sparse.specs.Groups.{AreGroups, AreGroupsBetween, words_of}
use Rattle.leak_sparse.specs.Words.{between, is_between}
use Rattle.leak_sparse.proofs.RetainLemmas.{retained_are, retained_words}
use Rattle.leak_sparse.proofs.words.SparseWords.retain_between.Goals as goal

left : (c : goal.After-shrink_to_fit) → AreGroupsBetween c.args.low c.args.high c.self.inside.kept.items c.self.inside.groups.items c.keep_between-left.new.groups
left c =
    let now = c.keep_between-left.new.groups in
    subst (λ (words : List ℕ). AreGroupsBetween c.args.low c.args.high words c.self.inside.groups.items now) c.as_mut_slice-2.ensures.value
    (subst (λ (groups : List Group). AreGroupsBetween c.args.low c.args.high c.as_mut_slice-2.result.now groups now) c.as_mut_slice.ensures.value c.keep_between-left.ensures.groups)

filtered : (c : goal.After-shrink_to_fit) → c.shrink_to_fit.new.self.items ≡ filter (is_between c.args.low c.args.high) c.self.inside.kept.items
filtered c =
    let moved = c.keep_between-left.new.kept in
    let same : (with_items c.self.inside.kept moved).items ≡ moved = with_items_is c.self.inside.kept moved (c.keep_between-left.ensures.len ∙ ap length c.as_mut_slice-2.ensures.value ∙ sym c.self.inside.kept.ok.0) in
    c.shrink_to_fit.ensures.items ∙ c.truncate.ensures.items ∙ ap (take c.keep_between-left.result) same
    ∙ c.keep_between-left.ensures.front ∙ ap (filter (is_between c.args.low c.args.high)) c.as_mut_slice-2.ensures.value

groups_are : (c : goal.After-shrink_to_fit) → (with_items c.self.inside.groups c.keep_between-left.new.groups).items ≡ c.keep_between-left.new.groups
groups_are c =
    let are = left c in
    with_items_is c.self.inside.groups c.keep_between-left.new.groups (are.long ∙ sym c.self.inside.groups.ok.0)

pub invariant_of-result : goal.invariant_of-result
invariant_of-result c =
    subst (λ (groups : List Group). AreGroups groups c.shrink_to_fit.new.self.items c.self.inside.len) (sym (groups_are c))
    (retained_are c.args.low c.args.high c.self.inside.groups.items c.keep_between-left.new.groups c.self.inside.kept.items c.shrink_to_fit.new.self.items c.self.inside.len c.self.invariant (left c) (filtered c))

pub returns : goal.returns
returns c =
    ap (λ (groups : List Group). words_of groups c.shrink_to_fit.new.self.items c.self.inside.len) (groups_are c)
    ∙ retained_words c.args.low c.args.high c.self.inside.groups.items c.keep_between-left.new.groups c.self.inside.kept.items c.shrink_to_fit.new.self.items c.self.inside.len c.self.invariant (left c) (filtered c)
    ∙ ap (map (between c.args.low c.args.high)) c.self.view_is
