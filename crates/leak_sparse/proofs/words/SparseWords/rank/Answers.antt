-- A place counts the words before its group, and those of the lower bits. Past the last group all are before it.
use Rattle.std.proofs.Common.{◌≡◌, ◌∙◌, ◌≤◌, ◌<◌, ◌/◌, ℕ, List, length, ap, sym, subst, get_or, arith}
use Rattle.leak_sparse.specs.declared.group.Group.{Group}
use Rattle.leak_sparse.specs.Groups.{empty}
use Rattle.leak_sparse.proofs.RankLemmas.{rank_to}
use Rattle.leak_sparse.proofs.RangeLemmas.{at_most, counts, len_is, rank_in, rank_past}
use Rattle.leak_sparse.proofs.words.SparseWords.rank.Goals as goal

pub overflow_add-result : goal.overflow_add-result
overflow_add-result c =
    let groups = c.self.inside.groups.items in
    let kept = c.self.inside.kept.items in
    let len = c.self.inside.len in
    let is : c.deref.result.now ≡ groups = c.deref.ensures.value in
    let inside = subst (λ (gs : List Group). c.args.place / 64 < length gs) is c.in-Some.ensures.lookup.3.0 in
    let here = c.in-Some.ensures.lookup.3.1 (empty 0) ∙ ap (λ (gs : List Group). get_or gs (c.args.place / 64) (empty 0)) is in
    omega (
      arith,
      rank_in groups kept len c.self.invariant c.args.place c.ones_below.result c.in-Some.group.now inside here c.ones_below.ensures,
      at_most groups kept len c.self.invariant c.args.place,
      len_is groups kept len c.args.self.now c.self.invariant c.self.view_is,
      c.requires,
      c.self.inside.kept.ok.0,
    )

pub returns-in-Some : goal.returns-in-Some
returns-in-Some c =
    let groups = c.self.inside.groups.items in
    let kept = c.self.inside.kept.items in
    let len = c.self.inside.len in
    let is : c.deref.result.now ≡ groups = c.deref.ensures.value in
    let inside = subst (λ (gs : List Group). c.args.place / 64 < length gs) is c.in-Some.ensures.lookup.3.0 in
    let here = c.in-Some.ensures.lookup.3.1 (empty 0) ∙ ap (λ (gs : List Group). get_or gs (c.args.place / 64) (empty 0)) is in
    rank_in groups kept len c.self.invariant c.args.place c.ones_below.result c.in-Some.group.now inside here c.ones_below.ensures
    ∙ sym (counts groups kept len c.args.self.now c.self.invariant c.self.view_is c.args.place c.requires)

pub returns-in-None : goal.returns-in-None
returns-in-None c =
    let groups = c.self.inside.groups.items in
    let kept = c.self.inside.kept.items in
    let len = c.self.inside.len in
    let is : c.deref.result.now ≡ groups = c.deref.ensures.value in
    let past = subst (λ (gs : List Group). length gs ≤ c.args.place / 64) is c.in-None.ensures.lookup.3 in
    let within : c.args.place ≤ len = omega (arith, c.requires, len_is groups kept len c.args.self.now c.self.invariant c.self.view_is) in
    c.len.ensures ∙ c.self.inside.kept.ok.0 ∙ sym (rank_past groups kept len c.self.invariant c.args.place within past)
    ∙ sym (counts groups kept len c.args.self.now c.self.invariant c.self.view_is c.args.place c.requires)
