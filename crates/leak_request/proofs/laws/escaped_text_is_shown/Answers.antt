-- From the lemmas of ShownLemmas.
use Rattle.leak_request.proofs.ShownLemmas.{escaped_shown}
use Rattle.leak_request.proofs.laws.escaped_text_is_shown.Goals as goal

pub returns : goal.returns
returns c = escaped_shown
