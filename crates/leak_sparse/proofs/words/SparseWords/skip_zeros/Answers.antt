-- No bit is set from `from` on, up to the one that is found, or to the end of the group.
use Rattle.std.proofs.Common.{ℕ, ◌+◌, ◌*◌, ◌/◌, ◌%◌, ◌<◌, List, subst, arith}
use Rattle.leak_sparse.specs.Words.{AreZerosTo}
use Rattle.leak_sparse.proofs.NextLemmas.{is_inside, lowest_of, none_of, zeros_to_kept, zeros_to_end}
use Rattle.leak_sparse.proofs.words.SparseWords.skip_zeros.Goals as goal

pub index-requires : goal.index-requires
index-requires c = omega (arith, is_inside c.self.inside.groups.items c.self.inside.kept.items c.self.inside.len c.args.from _ c.self.view_is c.requires, c.self.invariant.enough, c.self.inside.groups.ok.0)

pub returns-in-Some : goal.returns-in-Some
returns-in-Some c =
    let groups = c.self.inside.groups.items in
    let inside : c.args.from < c.self.inside.len = is_inside groups c.self.inside.kept.items c.self.inside.len c.args.from _ c.self.view_is c.requires in
    let low = lowest_of groups (c.args.from / 64) (c.args.from % 64) c.in-Some.found c.index.result.now (omega (arith, inside, c.self.invariant.enough)) c.index.ensures c.in-Some.ensures in
    subst (λ (words : List ℕ). AreZerosTo words c.args.from (64 * (c.args.from / 64) + c.in-Some.found)) c.self.view_is
    (zeros_to_kept groups c.self.inside.kept.items c.self.inside.len c.args.from c.in-Some.found c.self.invariant low)

pub returns-in-None : goal.returns-in-None
returns-in-None c =
    let groups = c.self.inside.groups.items in
    let inside : c.args.from < c.self.inside.len = is_inside groups c.self.inside.kept.items c.self.inside.len c.args.from _ c.self.view_is c.requires in
    let none = none_of groups (c.args.from / 64) (c.args.from % 64) c.index.result.now (omega (arith, inside, c.self.invariant.enough)) c.index.ensures c.in-None.ensures in
    subst (λ (words : List ℕ). AreZerosTo words c.args.from c.min.result) c.self.view_is
    (zeros_to_end groups c.self.inside.kept.items c.self.inside.len c.args.from c.min.result c.self.invariant inside none (omega (arith, c.min.ensures, c.saturating_mul.ensures, inside)))
