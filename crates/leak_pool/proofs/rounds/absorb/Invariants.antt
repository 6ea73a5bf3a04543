-- The gained lists so far were appended.
use Rattle.std.proofs.Common.{◌≡◌, map, drop, length}
use Rattle.leak_marks.specs.Rounds.{appended_from}
use Rattle.leak_pool.proofs.rounds.absorb.Given as goal

abbrev pub invariant-loop-k : goal.invariant-loop-k
invariant-loop-k l =
    (length l.claims.items ≡ length l.initial.claims.items)
    × (length l.gained.items ≡ length l.initial.gained.items)
    × (appended_from l.k (map (λ v. v.items) l.claims.items) (drop l.k (map (λ v. v.items) l.gained.items)) ≡ appended_from 0 (map (λ v. v.items) l.initial.claims.items) (map (λ v. v.items) l.initial.gained.items))
