-- From the lemmas of SortLemmas.
use Rattle.leak_report.proofs.SortLemmas.{found_there, is_found}
use Rattle.leak_report.proofs.numbering.place.Goals as goal

pub unreachable-requires : goal.unreachable-requires
unreachable-requires c = is_found c.args.sorted.now c.args.text.now c.in-Err.field-0 c.requires.ordered c.requires.one c.in-Err.ensures.position

pub returns-clause-is : goal.returns-clause-is
returns-clause-is c = found_there c.args.sorted.now c.args.text.now c.in-Ok.place c.in-Ok.ensures.bound c.in-Ok.ensures.ok
