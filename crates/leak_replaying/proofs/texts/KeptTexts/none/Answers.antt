-- From the lemmas of TextLemmas.
use Rattle.leak_replaying.proofs.TextLemmas.{no_texts}
use Rattle.leak_replaying.proofs.texts.KeptTexts.none.Goals as goal

pub returns : goal.returns
returns c = λ log. no_texts log _ _ _ c.new.ensures.items c.new-2.ensures.items c.new-3.ensures.items
