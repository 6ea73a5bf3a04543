-- From what the calls promise.
use Rattle.std.proofs.Common.{ap, subst}
use Rattle.leak_request.specs.Address.{IsBadAddress}
use Rattle.leak_request.specs.declared.fault.UsageFault.TheVariants as fault
use Rattle.leak_request.proofs.question.asked.Goals as goal

pub returns-in-None-clause-refused : goal.returns-in-None-clause-refused
returns-in-None-clause-refused c = (ap fault.Address c.argument_of.ensures, subst IsBadAddress c.as_bytes.ensures.value c.in-None.ensures.none)
