-- The bits from `from` on are shifted to the lowest places.
use Rattle.std.proofs.Common.{arith}
use Rattle.leak_sparse.proofs.LowestLemmas.{lowest, none_set}
use Rattle.leak_sparse.proofs.group.lowest_from.Goals as goal

pub returns-then-rest-eq0 : goal.returns-then-rest-eq0
returns-then-rest-eq0 c = none_set c.args.bits c.args.from c.if-rest-eq0.true

pub returns : goal.returns
returns c = lowest c.args.bits c.args.from (omega arith) c.requires (omega arith)
