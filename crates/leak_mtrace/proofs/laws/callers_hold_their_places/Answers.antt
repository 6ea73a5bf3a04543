-- Line by line.
use Rattle.leak_mtrace.proofs.CallerLemmas.{callers_hold_places}
use Rattle.leak_mtrace.proofs.laws.callers_hold_their_places.Goals as goal

pub returns : goal.returns
returns c = callers_hold_places
