-- The words of the threads so far, and those of the threads that are left.
use Rattle.std.proofs.Common.{◌≡◌, ◌++◌, ◌^◌, drop}
use Rattle.leak_elf.specs.Words.{word_of}
use Rattle.leak_blocks.specs.Small.{AreSpans}
use Rattle.leak_stacks.specs.Dead.{dead_from}
use Rattle.leak_stacks.proofs.dead.dead_from.Given as goal

abbrev pub invariant-loop-thread : goal.invariant-loop-thread
invariant-loop-thread g l = record {
  rest : l.spans.items ++ dead_from (word_of l.image) l.first l.room (drop l.thread-index l.threads) ≡ dead_from (word_of l.image) l.first (2 ^ 28) l.threads;
  each : AreSpans l.spans.items;
}
