-- The items so far were scanned; what was claimed for them was scanned too, or is on the stack or left.
use Rattle.std.proofs.Common.{◌+◌, ◌-◌, ◌≡◌, ◌≤◌, length, vec_capacity, ℕ, ◌%◌, ◌^◌, ◌<◌}
use Rattle.std.specs.Prelude.{slice_index_or}
use Rattle.leak_pool.specs.Items.{InRange}
use Rattle.leak_pool.specs.Promises.{IsWorking, IsByStack}
use Rattle.leak_pool.specs.Gates.{IsNextPassed}
use Rattle.leak_pool.specs.SearchModel.{blocks_of, items_of}
use Rattle.leak_pool.proofs.worker.work.Given as goal

abbrev pub invariant-scan : goal.invariant-scan
invariant-scan g l = record {
  from : l.initial.next ≤ l.next;
  to : l.next ≤ l.end;
  room : l.round.model.stack ≤ vec_capacity l.hand.stack;
  few : length l.hand.stack.items ≤ l.round.model.stack;
  door : (l.door.gate ≡ l.initial.door.gate) × (l.door.worker ≡ l.initial.door.worker);
  step : l.door.step ≡ (slice_index_or l.round.steps l.worker 0 + (l.next - l.initial.next)) % 2 ^ 64;
  passed : (j : ℕ) → j < l.next - l.initial.next → IsNextPassed (g.G.Gate.passed l.initial.door.gate.now) l.round.steps l.worker j;
  working : IsWorking (blocks_of l.round) (InRange (items_of l.round) l.initial.next l.next) l.initial.seat l.seat l.hand.list.items l.hand.stack.items l.hand.left.items;
  by_stack : IsByStack l.round.model.stack (InRange (items_of l.round) l.initial.next l.next) l.hand.list.items l.hand.left.items;
}

abbrev pub decreases-scan : goal.decreases-scan
decreases-scan g l = l.end - l.next + (length l.round.model.targets - length l.hand.list.items) + length l.hand.stack.items
