-- The sum so far.
use Rattle.std.proofs.Common.{◌≡◌, sum_by, take}
use Rattle.leak_report.proofs.leaked.leaked_bytes.Given as goal

abbrev pub invariant-loop-leak : goal.invariant-loop-leak
invariant-loop-leak l = l.bytes ≡ sum_by (λ k. k.block.size) (take l.leak-index l.leaks)
