-- The mask leaves the lower bits.
use Rattle.std.proofs.Common.{count_ones, ap}
use Rattle.leak_sparse.proofs.BitLemmas.{masked}
use Rattle.leak_sparse.proofs.group.ones_below.Goals as goal

pub returns : goal.returns
returns c = ap count_ones (masked c.args.bits c.args.bit c.requires)
