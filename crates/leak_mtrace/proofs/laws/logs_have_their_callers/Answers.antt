-- Line by line.
use Rattle.leak_mtrace.proofs.CallerLemmas.{callers_are_in}
use Rattle.leak_mtrace.proofs.laws.logs_have_their_callers.Goals as goal

pub returns : goal.returns
returns c = callers_are_in
