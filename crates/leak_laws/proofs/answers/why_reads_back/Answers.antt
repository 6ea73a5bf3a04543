-- From the lemmas.
use Rattle.leak_laws.proofs.WhyReading.{why_reads_back}
use Rattle.leak_laws.proofs.WhyBytes.{why_is_told}
use Rattle.leak_laws.proofs.answers.why_reads_back.Goals as goal

pub returns : goal.returns
returns c = record { told = why_is_told; one = why_reads_back }
