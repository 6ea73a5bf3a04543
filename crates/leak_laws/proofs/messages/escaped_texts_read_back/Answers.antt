-- From the lemma.
use Rattle.leak_laws.proofs.EscapeReading.{escaped_reads_back}
use Rattle.leak_laws.proofs.messages.escaped_texts_read_back.Goals as goal

pub returns : goal.returns
returns c = escaped_reads_back
