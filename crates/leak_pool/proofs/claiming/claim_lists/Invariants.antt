-- The blocks of the lists so far are seen.
use Rattle.std.proofs.Common.{drop, flat_map}
use Rattle.leak_marks.specs.Lists.{Has}
use Rattle.leak_pool.specs.Promises.{IsScanning}
use Rattle.leak_pool.proofs.claiming.claim_lists.Given as goal

abbrev pub invariant-loop-of_block : goal.invariant-loop-of_block
invariant-loop-of_block l = IsScanning (Has (flat_map (λ x. x.targets.now) l.lists)) (flat_map (λ x. x.targets.now) (drop l.of_block-index l.lists)) l.initial.seat l.initial.list.items l.seat l.list.items
