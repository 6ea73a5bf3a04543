-- From the lemmas of LineLemmas.
use Rattle.std.proofs.Common.{◌∙◌}
use Rattle.leak_later.proofs.LineLemmas.{found_is_listed}
use Rattle.leak_later.proofs.carrying.is_listed.Goals as goal

pub returns : goal.returns
returns c = c.is_ok.ensures.value ∙ found_is_listed c.args.lines.now c.args.line c.binary_search.result c.requires c.binary_search.ensures.position
