-- From lemmas of std.
use Rattle.std.proofs.Common.{◌≤◌, sym, codes, arith}
use Rattle.std.proofs.lemmas.List.{get_or_past}
use Rattle.leak_why.specs.Text.{status_names}
use Rattle.leak_why.proofs.telling.status_name.Goals as goal

pub returns-in_default : goal.returns-in_default
returns-in_default c = sym (get_or_past status_names c.args.number (codes "?") (let far : 27 ≤ c.args.number = omega arith in far))
