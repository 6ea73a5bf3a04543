-- The word is 0, or is kept, by its rank.
use Rattle.std.proofs.Common.{◌≡◌, ℕ, ◌+◌, ◌<◌, List, length, Some, None, subst, arith}
use Rattle.std.specs.Prelude.{slice_get}
use Rattle.std.proofs.lemmas.Bool.{iff_false}
use Rattle.leak_sparse.proofs.ViewLemmas.{get_index, get_past, get_set, get_unset}
use Rattle.leak_sparse.proofs.words.SparseWords.get.Goals as goal

pub returns-then-place-self : goal.returns-then-place-self
returns-then-place-self c =
    subst (λ (words : List ℕ). None ≡ slice_get words c.args.place) c.self.view_is
    (get_past c.self.inside.groups.items c.self.inside.kept.items c.self.inside.len c.args.place c.if-place-self.true)

pub returns-then-not-has : goal.returns-then-not-has
returns-then-not-has c =
    subst (λ (words : List ℕ). Some 0 ≡ slice_get words c.args.place) c.self.view_is
    (get_unset c.self.inside.groups.items c.self.inside.kept.items c.self.inside.len c.args.place c.index-group.result.now c.self.invariant c.if-place-self.false c.index-group.ensures (iff_false c.has.ensures c.if-not-has.true))

pub index-requires : goal.index-requires
index-requires c =
    let inside : c.index-group.result.now.before + c.ones_below.result < length c.self.inside.kept.items =
    get_index c.self.inside.groups.items c.self.inside.kept.items c.self.inside.len c.args.place c.ones_below.result c.index-group.result.now c.self.invariant c.if-place-self.false c.index-group.ensures (c.has.ensures.0 c.if-not-has.false) c.ones_below.ensures in
    omega (arith, inside, c.self.inside.kept.ok.0)

pub returns : goal.returns
returns c =
    subst (λ (words : List ℕ). Some c.index.result.now ≡ slice_get words c.args.place) c.self.view_is
    (get_set c.self.inside.groups.items c.self.inside.kept.items c.self.inside.len c.args.place c.ones_below.result c.index.result.now c.index-group.result.now c.self.invariant c.if-place-self.false c.index-group.ensures (c.has.ensures.0 c.if-not-has.false) c.ones_below.ensures c.index.ensures)
