-- No bit is set from `from` on, up to the one that is found.
use Rattle.std.proofs.Common.{ℕ, ◌+◌, ◌*◌, ◌<◌, ◌≤◌, List, length, subst, arith}
use Rattle.leak_sparse.specs.Bits.{IsLowestFrom}
use Rattle.leak_sparse.specs.Words.{IsNextKept, NoneKeptFrom}
use Rattle.leak_sparse.proofs.RankLemmas.{bits_of}
use Rattle.leak_sparse.proofs.NextLemmas.{found_inside, found_next, lowest_of, none_left}
use Rattle.leak_sparse.proofs.words.SparseWords.next_kept.Goals as goal

inside_groups : (c : goal.In-Some) → c.loop-number.number < length c.self.inside.groups.items
inside_groups c = omega (arith, c.div_ceil-number-end.ensures, c.loop-number-test.true, c.self.invariant.enough)

lowest_here : (c : goal.In-Some) → IsLowestFrom (bits_of c.self.inside.groups.items c.loop-number.number) c.loop-number.bit c.in-Some.found
lowest_here c = lowest_of c.self.inside.groups.items c.loop-number.number c.loop-number.bit c.in-Some.found c.index.result.now (inside_groups c) c.index.ensures c.in-Some.ensures

inside_here : (c : goal.In-Some) → 64 * c.loop-number.number + c.in-Some.found < c.self.inside.len
inside_here c = found_inside c.self.inside.groups.items c.self.inside.kept.items c.self.inside.len c.loop-number.number c.loop-number.bit c.in-Some.found c.self.invariant (lowest_here c)

pub overflow_mul-result : goal.overflow_mul-result
overflow_mul-result c = omega (arith, inside_here c)

pub overflow_add-result : goal.overflow_add-result
overflow_add-result c = omega (arith, inside_here c)

pub returns-in-Some : goal.returns-in-Some
returns-in-Some c =
    subst (λ (words : List ℕ). IsNextKept words c.args.from (64 * c.loop-number.number + c.in-Some.found)) c.self.view_is
    (found_next c.self.inside.groups.items c.self.inside.kept.items c.self.inside.len c.args.from c.loop-number.number c.loop-number.bit c.in-Some.found c.self.invariant c.loop-number.invariant.reached c.loop-number.invariant.none (lowest_here c))

pub returns : goal.returns
returns c =
    let past : c.self.inside.len ≤ 64 * c.loop-number.number = omega (arith, c.div_ceil-number-end.ensures, c.loop-number-test.false) in
    subst (λ (words : List ℕ). NoneKeptFrom words c.args.from) c.self.view_is
    (none_left c.self.inside.groups.items c.self.inside.kept.items c.self.inside.len c.args.from c.loop-number.number c.loop-number.bit c.self.invariant past c.loop-number.invariant.none)
