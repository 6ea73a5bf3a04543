-- The steps of the workers so far were counted.
use Rattle.std.proofs.Common.{◌≡◌, length}
use Rattle.leak_pool.specs.Rounds.{AreCounted}
use Rattle.leak_pool.proofs.rounds.count_steps.Given as goal

abbrev pub invariant-loop-k : goal.invariant-loop-k
invariant-loop-k l = record { len : length l.steps.items ≡ l.workers; counted : AreCounted l.items l.workers l.k l.initial.steps.items l.steps.items }
