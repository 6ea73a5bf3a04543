-- The groups so far are full, and the one that is added counts the words kept so far.
use Rattle.std.proofs.Common.{◌∙◌, ℕ, ◌/◌, List, ◌++◌, take, refl, ap, ap₂}
use Rattle.leak_sparse.specs.declared.group.Group.{Group}
use Rattle.leak_sparse.proofs.AppendLemmas.{append_are, append_words, full, is_both}
use Rattle.leak_sparse.proofs.WholeLemmas.{alone, alone_are, alone_words, is_behind, same_group}
use Rattle.leak_sparse.proofs.words.SparseWords.push_group.Goals as goal

pub invariant_of-self-2 : goal.invariant_of-self-2
invariant_of-self-2 c =
    let groups = c.self.inside.groups.items in
    let now = c.push_reserved.new.self.items in
    let kept = c.self.inside.kept.items in
    let len = c.self.inside.len in
    let bits = c.nonzero_bits-bits.result in
    let pushed = c.push_set.ensures in
    let cut = c.truncate.ensures.items ∙ ap (λ (gs : List Group). take (len / 64) gs) c.reserve.ensures.items in
    let is = is_both groups c.truncate.new.self.items (alone bits) (alone bits) now kept len c.len-before.result
    (is_behind c.truncate.new.self.items now bits c.len-before.result c.push_reserved.ensures.items) cut (c.len-before.ensures ∙ c.self.inside.kept.ok.0) refl in
    let words = pushed.behind ∙ ap (λ (ws : List ℕ). ws ++ pushed.more) c.reserve-2.ensures.items in
    append_are groups (alone bits) now kept pushed.more c.push_set.new.kept.items len 64 c.in-Some.len c.self.invariant
    (alone_are bits c.args.words.now c.reserve-2.new.self.items c.push_set.new.kept.items c.nonzero_bits-bits.ensures.narrow pushed)
    (full groups kept len c.args.self.now c.self.view_is c.requires.whole) is words c.in-Some.ensures.1

pub returns-clause-ok : goal.returns-clause-ok
returns-clause-ok c =
    let groups = c.self.inside.groups.items in
    let now = c.push_reserved.new.self.items in
    let kept = c.self.inside.kept.items in
    let len = c.self.inside.len in
    let bits = c.nonzero_bits-bits.result in
    let pushed = c.push_set.ensures in
    let narrow = c.nonzero_bits-bits.ensures.narrow in
    let cut = c.truncate.ensures.items ∙ ap (λ (gs : List Group). take (len / 64) gs) c.reserve.ensures.items in
    let is = is_both groups c.truncate.new.self.items (alone bits) (alone bits) now kept len c.len-before.result
    (is_behind c.truncate.new.self.items now bits c.len-before.result c.push_reserved.ensures.items) cut (c.len-before.ensures ∙ c.self.inside.kept.ok.0) refl in
    let words = pushed.behind ∙ ap (λ (ws : List ℕ). ws ++ pushed.more) c.reserve-2.ensures.items in
    let more = alone_words bits c.args.words.now c.reserve-2.new.self.items c.push_set.new.kept.items narrow pushed ∙ same_group c.args.bits c.args.words.now bits c.nonzero_bits-bits.ensures in
    append_words groups (alone bits) now kept pushed.more c.push_set.new.kept.items len 64 c.in-Some.len c.self.invariant
    (alone_are bits c.args.words.now c.reserve-2.new.self.items c.push_set.new.kept.items narrow pushed)
    (full groups kept len c.args.self.now c.self.view_is c.requires.whole) is words c.in-Some.ensures.1
    ∙ ap₂ (λ (first second : List ℕ). first ++ second) c.self.view_is more
