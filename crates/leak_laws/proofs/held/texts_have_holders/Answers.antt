-- From the lemmas.
use Rattle.leak_laws.proofs.HolderOrder.{texts_differ}
use Rattle.leak_laws.proofs.HolderTexts.{marked_have_holders}
use Rattle.leak_laws.proofs.held.texts_have_holders.Goals as goal

pub returns : goal.returns
returns c = record { differ = texts_differ; each = marked_have_holders }
