-- From the lemmas.
use Rattle.leak_laws.proofs.GrowthReading.{growth_is_told, growth_reads_back}
use Rattle.leak_laws.proofs.answers.growth_reads_back.Goals as goal

pub returns : goal.returns
returns c = record { told = growth_is_told; one = growth_reads_back }
