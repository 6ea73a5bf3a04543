-- What the pairs of words so far tell of, and those that are left, come to the stack.
use Rattle.std.proofs.Common.{◌≡◌, ◌+◌, ◌-◌, ◌≤◌, ◌^◌}
use Rattle.leak_elf.specs.Words.{word_of}
use Rattle.leak_stacks.specs.Stacks.{made_from, own_stack, stack_at}
use Rattle.leak_stacks.proofs.StackLemmas.{ending}
use Rattle.leak_stacks.proofs.stack.own_stack.Given as goal

abbrev pub invariant-loop-place : goal.invariant-loop-place
invariant-loop-place g l = record {
  from : l.thread.fs_base ≤ l.from;
  rest : ending l.told (made_from (stack_at (word_of l.image) l.thread) l.from (l.thread.fs_base + 4096)) ≡ own_stack (word_of l.image) l.thread;
}

abbrev pub decreases-loop-place : goal.decreases-loop-place
decreases-loop-place g l = 2 ^ 64 - l.from
