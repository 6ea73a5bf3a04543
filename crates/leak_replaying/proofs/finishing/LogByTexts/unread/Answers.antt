-- From the clause of KeptTexts::none.
use Rattle.leak_replaying.proofs.finishing.LogByTexts.unread.Goals as goal

pub returns : goal.returns
returns c = λ spans log is. record { read = tt; unread = is; texts = c.none.ensures log }
