-- From the lemmas of Plain.
use Rattle.leak_elf.proofs.Plain.{fault_plain}
use Rattle.leak_elf.proofs.laws.faults_are_plain.Goals as goal

pub returns : goal.returns
returns c = fault_plain
