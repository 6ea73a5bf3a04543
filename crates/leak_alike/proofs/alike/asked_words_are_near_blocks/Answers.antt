-- By the rules that ask.
use Rattle.leak_alike.proofs.AskedPlaces.{asked_near}
use Rattle.leak_alike.proofs.alike.asked_words_are_near_blocks.Goals as goal

pub returns : goal.returns
returns c = asked_near
