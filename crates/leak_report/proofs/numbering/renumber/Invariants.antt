-- The numbers so far have their places; the others are as before.
use Rattle.std.proofs.Common.{◌≡◌, ◌++◌, map, take, drop, get_or}
use Rattle.leak_report.proofs.numbering.renumber.Given as goal

abbrev pub invariant-loop-number : goal.invariant-loop-number
invariant-loop-number l = l.numbers ≡ map (λ n. get_or l.places n 0) (take l.number-index l.initial.numbers) ++ drop l.number-index l.initial.numbers
