-- By the first byte.
use Rattle.leak_mtrace.proofs.OneLineLemmas.{one_line}
use Rattle.leak_mtrace.proofs.laws.lines_are_one.Goals as goal

pub returns : goal.returns
returns c = one_line
