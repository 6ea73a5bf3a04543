-- The bytes so far are digits, and their value is known.
use Rattle.leak_request.proofs.Numbers.{IsReadAsNumber}
use Rattle.leak_request.proofs.displacements.number.Given as goal

abbrev pub invariant-loop-byte : goal.invariant-loop-byte
invariant-loop-byte l = IsReadAsNumber l.item l.byte-index l.value
