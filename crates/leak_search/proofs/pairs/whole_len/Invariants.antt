-- No line feed follows the bytes that are left.
use Rattle.std.proofs.Common.{◌≡◌, ◌+◌, ◌≤◌, ◌==◌, not, length, take}
use Rattle.std.specs.List.{suffix_len}
use Rattle.leak_search.proofs.pairs.whole_len.Given as goal

abbrev pub invariant-loop-len : goal.invariant-loop-len
invariant-loop-len l =
    (l.len ≤ length l.log) × (l.len + suffix_len (λ b. not (b == 10)) l.log ≡ length l.log + suffix_len (λ b. not (b == 10)) (take l.len l.log))

abbrev pub decreases-loop-len : goal.decreases-loop-len
decreases-loop-len l = l.len
