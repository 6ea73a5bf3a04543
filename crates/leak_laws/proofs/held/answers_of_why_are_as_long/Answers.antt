-- Each chain is no longer than the other.
use Rattle.leak_laws.proofs.SameWhy.{as_long}
use Rattle.leak_laws.proofs.held.answers_of_why_are_as_long.Goals as goal

pub returns : goal.returns
returns c = as_long
