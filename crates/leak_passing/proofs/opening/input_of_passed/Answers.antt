-- From the lemmas of HoldingLemmas.
use Rattle.leak_passing.proofs.HoldingLemmas.{input_fault}
use Rattle.leak_passing.proofs.opening.input_of_passed.Goals as goal

pub passed-requires : goal.passed-requires
passed-requires c = rw (c.in_ok-rest.ensures) c.requires.head

pub returns-in-Err-clause-refused : goal.returns-in-Err-clause-refused
returns-in-Err-clause-refused c =
    rw (c.at_core.ensures, ← c.in_ok-rest.ensures) (λ other log read. input_fault _ log c.in-Err.error c.in-Err.ensures.refused other)

pub returns-clause-ok : goal.returns-clause-ok
returns-clause-ok c = rw (← c.in_ok-rest.ensures, ← c.in-Ok.ensures.ok.0) c.input_of.ensures.ok

pub returns-clause-refused : goal.returns-clause-refused
returns-clause-refused c = rw (← c.in_ok-rest.ensures, ← c.in-Ok.ensures.ok.0) c.input_of.ensures.refused
