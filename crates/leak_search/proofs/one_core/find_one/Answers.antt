-- The input has the core of which it was read.
use Rattle.leak_search.proofs.InputLemmas.{own_core}
use Rattle.leak_search.proofs.one_core.find_one.Goals as goal

pub find_in-requires-clause-read : goal.find_in-requires-clause-read
find_in-requires-clause-read g c κs within = (c.in_ok-input.ensures.ok.0, own_core _ _ _ _ c.in_ok-input.ensures.ok.1)

pub returns-clause-ok : goal.returns-clause-ok
returns-clause-ok g c = rw (← c.in_ok-input.ensures.ok.1.image) c.find_in.ensures.ok

pub returns-clause-signs : goal.returns-clause-signs
returns-clause-signs g c = rw (← c.in_ok-input.ensures.ok.1.image) c.find_in.ensures.signs

pub returns-clause-refused : goal.returns-clause-refused
returns-clause-refused g c = rw (← c.in_ok-input.ensures.ok.1.image) c.find_in.ensures.refused
