-- From the lemmas of SearchLemmas.
use Rattle.std.proofs.Common.{ap, Err}
use Rattle.std.proofs.lemmas.Result.{err_from_is_err_and}
use Rattle.leak_search.proofs.ListedLemmas.{room_for}
use Rattle.leak_search.proofs.SearchLemmas.{marking_refused}
use Rattle.leak_search.proofs.listing.list_input.Goals as goal

pub returns-in_err-listed-clause-refused : goal.returns-in_err-listed-clause-refused
returns-in_err-listed-clause-refused g c =
    let p = err_from_is_err_and c.from_residual.result c.from_residual.ensures.1 in
    rw (p.1) (λ other log lines read.
    marking_refused _ log c.args.input.now _ _ (lines, read) p.2 (λ e. c.in_err-listed.ensures.many (ap Err e)) other)

pub returns-clause-room : goal.returns-clause-room
returns-clause-room g c = room_for c.args.input.now c.team-team.result.workers c.in_ok-listed.listed c.team-team.ensures.some c.in_ok-listed.ensures.within
