-- By arithmetic, from what the calls promise.
use Rattle.std.proofs.Common.{arith}
use Rattle.leak_report.proofs.places.number.Goals as goal

pub returns : goal.returns
returns c =
    omega (arith, c.byte.ensures.value, c.byte-2.ensures.value, c.byte-3.ensures.value, c.byte-4.ensures.value, c.byte-5.ensures.value, c.byte-6.ensures.value, c.byte-7.ensures.value, c.byte-8.ensures.value)
