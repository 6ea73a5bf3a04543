-- An empty list for each worker so far.
use Rattle.std.proofs.Common.{◌≡◌, map, replicate, length, []}
use Rattle.leak_pool.proofs.marking_by_rounds.no_claims.Given as goal

abbrev pub invariant-loop-worker : goal.invariant-loop-worker
invariant-loop-worker l = (map (λ v. v.items) l.claims.items ≡ replicate l._worker []) × (length l.claims.items ≡ l._worker)
