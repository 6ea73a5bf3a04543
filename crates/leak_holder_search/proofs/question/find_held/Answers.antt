-- The input has the core of which it was read.
use Rattle.leak_holder_search.proofs.FindLemmas.{own_read}
use Rattle.leak_holder_search.proofs.question.find_held.Goals as goal

pub find_held_in-requires-clause-read : goal.find_held_in-requires-clause-read
find_held_in-requires-clause-read g c κs within = own_read _ _ _ c.in_ok-input.ensures.ok

pub returns-clause-ok : goal.returns-clause-ok
returns-clause-ok g c = rw (← c.in_ok-input.ensures.ok.1.image) c.find_held_in.ensures.ok

pub returns-clause-signs : goal.returns-clause-signs
returns-clause-signs g c = rw (← c.in_ok-input.ensures.ok.1.image) c.find_held_in.ensures.signs

pub returns-clause-refused : goal.returns-clause-refused
returns-clause-refused g c = rw (← c.in_ok-input.ensures.ok.1.image) c.find_held_in.ensures.refused
