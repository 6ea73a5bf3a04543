-- From the lemmas of SharingLemmas.
use Rattle.leak_replaying.proofs.SharingLemmas.{len_of_none, len_to_last}
use Rattle.leak_replaying.proofs.sharing.whole_len.Goals as goal

pub returns-in-Some : goal.returns-in-Some
returns-in-Some c = len_to_last c.args.bytes.now c.in-Some.at c.in-Some.ensures.0 c.in-Some.ensures.1

pub returns-in-None : goal.returns-in-None
returns-in-None c = len_of_none c.args.bytes.now c.in-None.ensures
