-- By arithmetic, from what the calls promise.
use Rattle.std.proofs.Common.{ℕ, List, subst, arith}
use Rattle.leak_marks.specs.Lists.{Has}
use Rattle.leak_pool.specs.ScopeLaw.{scope_inside}
use Rattle.leak_pool.proofs.scope.ScopeTargetSource.scan.Goals as goal

pub claim_all-requires-clause-inside : goal.claim_all-requires-clause-inside
claim_all-requires-clause-inside g c b h =
    let s = c.args.self.now in
    let i = scope_inside (g.W.Words.word_at s.words.now) (g.L.Lookup.index s.lookup.now) s.roots.now s.pieces.now s.pages.now s.rescan.now c.args.item b (subst (λ (l : List ℕ). Has l b) c.targets.ensures h) in
    omega (arith, i, c.requires.blocks)
