-- Zeros go before the place, a group is there for it, and its bit is set in it.
use Rattle.std.proofs.Common.{◌∙◌, ℕ, List, [], ◌∷◌, ◌++◌, replicate, ap, sym, subst, length, arith}
use Rattle.leak_sparse.proofs.AheadLemmas.{ahead, ahead_are, ahead_words, is_opened_ahead}
use Rattle.leak_sparse.proofs.PushLemmas.{push_room, pushed_are, pushed_words}
use Rattle.leak_sparse.proofs.words.SparseWords.push_after.Goals as goal

pub overflow_add-group : goal.overflow_add-group
overflow_add-group c =
    let groups = c.self.inside.groups.items in
    let now = c.cover.new.groups.items in
    let kept = c.self.inside.kept.items in
    let place = c.in-Some.place in
    let before = ahead groups kept place in
    let are = ahead_are groups kept c.self.inside.len c.args.zeros place c.self.invariant c.in-Some.ensures.1 in
    let whole = c.len.ensures ∙ c.reserve.ensures.len ∙ c.self.inside.kept.ok.0 in
    let is = is_opened_ahead groups now kept place c.in-Some-checked_add.len c.len.result c.in_ok-cover.ensures.items c.in-Some-checked_add.ensures.1 whole in
    omega (arith, push_room before now kept place c.index-group.result.now are is c.index-group.ensures)

pub invariant_of-self-2 : goal.invariant_of-self-2
invariant_of-self-2 c =
    let groups = c.self.inside.groups.items in
    let now = c.cover.new.groups.items in
    let kept = c.self.inside.kept.items in
    let place = c.in-Some.place in
    let before = ahead groups kept place in
    let are = ahead_are groups kept c.self.inside.len c.args.zeros place c.self.invariant c.in-Some.ensures.1 in
    let whole = c.len.ensures ∙ c.reserve.ensures.len ∙ c.self.inside.kept.ok.0 in
    let is = is_opened_ahead groups now kept place c.in-Some-checked_add.len c.len.result c.in_ok-cover.ensures.items c.in-Some-checked_add.ensures.1 whole in
    let all = c.push_reserved.ensures.items ∙ ap (λ (words : List ℕ). words ++ c.args.word ∷ []) c.reserve.ensures.items in
    pushed_are before now kept c.push_reserved.new.self.items place c.in-Some-checked_add.len c.args.word c.index-group.result.now are is c.index-group.ensures c.in-Some-checked_add.ensures.1 all c.requires

pub returns-clause-ok : goal.returns-clause-ok
returns-clause-ok c =
    let groups = c.self.inside.groups.items in
    let now = c.cover.new.groups.items in
    let kept = c.self.inside.kept.items in
    let place = c.in-Some.place in
    let before = ahead groups kept place in
    let are = ahead_are groups kept c.self.inside.len c.args.zeros place c.self.invariant c.in-Some.ensures.1 in
    let whole = c.len.ensures ∙ c.reserve.ensures.len ∙ c.self.inside.kept.ok.0 in
    let is = is_opened_ahead groups now kept place c.in-Some-checked_add.len c.len.result c.in_ok-cover.ensures.items c.in-Some-checked_add.ensures.1 whole in
    let all = c.push_reserved.ensures.items ∙ ap (λ (words : List ℕ). words ++ c.args.word ∷ []) c.reserve.ensures.items in
    pushed_words before now kept c.push_reserved.new.self.items place c.in-Some-checked_add.len c.args.word c.index-group.result.now are is c.index-group.ensures c.in-Some-checked_add.ensures.1 all
    ∙ ap (λ (words : List ℕ). words ++ c.args.word ∷ []) (ahead_words groups kept c.self.inside.len c.args.zeros place c.self.invariant c.in-Some.ensures.1)
    ∙ ap (λ (words : List ℕ). words ++ replicate c.args.zeros 0 ++ c.args.word ∷ []) c.self.view_is
