-- By the kind of the piece.
use Rattle.std.proofs.Common.{◌≡◌, sym, subst}
use Rattle.leak_roots.specs.Pieces.{IsPiece}
use Rattle.leak_pool.specs.Scopes.{piece_targets}
use Rattle.leak_pool.proofs.scope.Scope.of_piece.Goals as goal

pub of_memory-requires-clause-range : goal.of_memory-requires-clause-range
of_memory-requires-clause-range g c = subst (λ x. IsPiece c.args.self.now.roots.now x) c.in-Memory.is c.requires

pub returns-in-Memory : goal.returns-in-Memory
returns-in-Memory g c =
    let w = g.W.Words.word_at c.args.self.now.words.now in let i = g.L.Lookup.index c.args.self.now.lookup.now in let p = c.args.self.now.roots.now in
    subst (λ x. c.of_memory.result ≡ piece_targets w i p x) (sym c.in-Memory.is) c.of_memory.ensures
