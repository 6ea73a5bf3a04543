-- The holders of the segments from here on were found.
use Rattle.std.proofs.Common.{◌≡◌, ℕ, ◌<◌, ◌≤◌, length, get_or}
use Rattle.leak_elf.specs.Words.{IsHolder}
use Rattle.leak_elf.proofs.search.find_holders.Given as goal

abbrev pub invariant-loop-i : goal.invariant-loop-i
invariant-loop-i l = record {
  bound : l.i ≤ length l.segments;
  size : length l.holders.items ≡ length l.segments;
  next : IsHolder l.segments l.i l.holder;
  done : (k d : ℕ) → l.i ≤ k → k < length l.segments → IsHolder l.segments k (get_or l.holders.items k d);
}
