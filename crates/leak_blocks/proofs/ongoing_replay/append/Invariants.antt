-- With the numbers of the entries that are left, those of all.
use Rattle.std.proofs.Common.{◌≡◌, ◌++◌, map}
use Rattle.leak_blocks.proofs.ongoing_replay.append.Given as goal

abbrev pub invariant-loop-number : goal.invariant-loop-number
invariant-loop-number l = l.joined.items ++ map (λ e. e.1) l.number-iterator ≡ l.initial.joined.items ++ map (λ e. e.1) l.fn.entries
