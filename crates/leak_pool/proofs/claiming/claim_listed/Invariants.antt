-- The targets are seen, except those that are left.
use Rattle.std.proofs.Common.{drop}
use Rattle.leak_marks.specs.Lists.{Has}
use Rattle.leak_pool.specs.Promises.{IsScanning}
use Rattle.leak_pool.proofs.claiming.claim_listed.Given as goal

abbrev pub invariant-loop-block : goal.invariant-loop-block
invariant-loop-block l = IsScanning (Has l.targets) (drop l.block-index l.targets) l.initial.seat l.initial.list.items l.seat l.list.items
