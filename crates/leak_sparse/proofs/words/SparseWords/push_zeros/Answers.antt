-- No bit is set in the groups that are added.
use Rattle.std.proofs.Common.{◌≡◌, ◌∙◌, ℕ, ◌+◌, ◌≤◌, List, ◌++◌, length, replicate, ap, subst, sym, arith}
use Rattle.std.proofs.lemmas.Bool.{false≢true}
use Rattle.leak_sparse.specs.declared.group.Group.{Group}
use Rattle.leak_sparse.specs.Groups.{AreGroups, covered, group_count, words_of}
use Rattle.leak_sparse.proofs.ViewLemmas.{room_there}
use Rattle.leak_sparse.proofs.ChangeLemmas.{covered_are, covered_words}
use Rattle.leak_sparse.proofs.words.SparseWords.push_zeros.Goals as goal

groups_are : (c : goal.After-self-1) → c.cover.new.groups.items ≡ covered c.self.inside.groups.items (c.self.inside.len + c.args.count) (length c.self.inside.kept.items)
groups_are c =
    let count : c.len.result ≡ length c.self.inside.kept.items = c.len.ensures ∙ c.self.inside.kept.ok.0 in
    let len : c.in-Some.len ≡ c.self.inside.len + c.args.count = c.in-Some.ensures.1 in
    c.in_ok-cover.ensures.items ∙ ap (λ (n : ℕ). covered c.self.inside.groups.items c.in-Some.len n) count ∙ ap (λ (n : ℕ). covered c.self.inside.groups.items n (length c.self.inside.kept.items)) len

pub invariant_of-self-2 : goal.invariant_of-self-2
invariant_of-self-2 c =
    let len : c.in-Some.len ≡ c.self.inside.len + c.args.count = c.in-Some.ensures.1 in
    subst (λ (n : ℕ). AreGroups c.cover.new.groups.items c.self.inside.kept.items n) (sym len)
    (subst (λ (groups : List Group). AreGroups groups c.self.inside.kept.items (c.self.inside.len + c.args.count)) (sym (groups_are c))
    (covered_are c.self.inside.groups.items c.self.inside.kept.items c.self.inside.len (c.self.inside.len + c.args.count) (c.self.inside.len + c.args.count) c.self.invariant (omega arith) (omega arith) (omega arith)))

pub returns-clause-ok : goal.returns-clause-ok
returns-clause-ok c =
    let len : c.in-Some.len ≡ c.self.inside.len + c.args.count = c.in-Some.ensures.1 in
    ap (λ (n : ℕ). words_of c.cover.new.groups.items c.self.inside.kept.items n) len
    ∙ ap (λ (groups : List Group). words_of groups c.self.inside.kept.items (c.self.inside.len + c.args.count)) (groups_are c)
    ∙ covered_words c.self.inside.groups.items c.self.inside.kept.items c.self.inside.len c.args.count (c.self.inside.len + c.args.count) c.self.invariant
    ∙ ap (λ (words : List ℕ). words ++ replicate c.args.count 0) c.self.view_is

pub returns-in_default-clause-room : goal.returns-in_default-clause-room
returns-in_default-clause-room c room =
    absurd (c.in_default.ensures (room_there c.self.inside.groups.items c.self.inside.kept.items c.self.inside.len c.args.count c.args.self.now c.self.invariant c.self.view_is room).0)

pub returns-in_err-cover-clause-room : goal.returns-in_err-cover-clause-room
returns-in_err-cover-clause-room c room =
    let len : c.in-Some.len ≡ c.self.inside.len + c.args.count = c.in-Some.ensures.1 in
    let fits = room_there c.self.inside.groups.items c.self.inside.kept.items c.self.inside.len c.args.count c.args.self.now c.self.invariant c.self.view_is room in
    absurd (false≢true (c.in_err-cover.ensures.room (subst (λ (n : ℕ). group_count n ≤ length c.self.inside.groups.items) (sym len) fits.1)))
