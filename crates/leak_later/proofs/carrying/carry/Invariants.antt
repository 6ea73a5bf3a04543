-- The kept and the fresh blocks among those so far.
use Rattle.std.proofs.Common.{◌≡◌, take, not}
use Rattle.leak_later.specs.Kept.{numbers_from, has_line, has_marked_line}
use Rattle.leak_later.proofs.carrying.carry.Given as goal

abbrev pub invariant-loop-number : goal.invariant-loop-number
invariant-loop-number l = record {
  kept : l.kept.items ≡ numbers_from 0 (λ b. has_marked_line l.marked l.earlier.blocks b.line) (take l.number l.later.blocks);
  fresh : l.fresh.items ≡ numbers_from 0 (λ b. not (has_line l.earlier.blocks b.line)) (take l.number l.later.blocks);
}
