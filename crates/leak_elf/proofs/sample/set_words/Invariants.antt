-- The words so far were set.
use Rattle.std.proofs.Common.{◌≡◌, take}
use Rattle.leak_elf.specs.Sample.{with_words}
use Rattle.leak_elf.proofs.sample.set_words.Given as goal

abbrev pub invariant-loop-addr : goal.invariant-loop-addr
invariant-loop-addr l = l.core ≡ with_words l.fn.core (take l.addr-index l.words)
