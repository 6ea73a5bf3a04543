-- How low functions go by the frames so far and by those that are left.
use Rattle.std.proofs.Common.{◌≡◌, ◌+◌, ◌-◌, ◌≤◌, ◌^◌}
use Rattle.leak_elf.specs.Words.{word_of}
use Rattle.leak_stacks.specs.Stacks.{made_from}
use Rattle.leak_stacks.specs.Lows.{frame_at, low_of, lowest}
use Rattle.leak_stacks.proofs.low.low_of.Given as goal

abbrev pub invariant-loop-place : goal.invariant-loop-place
invariant-loop-place g l = record {
  from : l.thread.sp ≤ l.from;
  rest : lowest l.low (made_from (frame_at (word_of l.image) l.stack l.thread.sp) l.from (l.stack.begin + l.stack.size)) ≡ low_of (word_of l.image) l.stack l.thread;
}

abbrev pub decreases-loop-place : goal.decreases-loop-place
decreases-loop-place g l = 2 ^ 64 - l.from
