-- The targets are seen, except those that are still to come.
use Rattle.leak_marks.specs.Lists.{Has}
use Rattle.leak_pool.specs.Promises.{IsScanning}
use Rattle.leak_pool.proofs.claiming.claim_all.Given as goal

abbrev pub invariant-loop-block : goal.invariant-loop-block
invariant-loop-block g l = IsScanning (Has l.initial.block-iterator) l.block-iterator l.initial.seat l.initial.list.items l.seat l.list.items
