-- What stands for the bytes so far is appended.
use Rattle.std.proofs.Common.{◌≡◌, ◌++◌, take}
use Rattle.leak_request.specs.Escaped.{escaped}
use Rattle.leak_request.proofs.escaping.push_escaped.Given as goal

abbrev pub invariant-loop-byte : goal.invariant-loop-byte
invariant-loop-byte l = l.out.items ≡ l.fn.out.items ++ escaped (take l.byte-index l.text)
