-- No line, and no block.
use Rattle.std.proofs.Common.{refl}
use Rattle.leak_mtrace.proofs.PartLemmas.{no_lines}
use Rattle.leak_replaying.proofs.NumberingLemmas.{numbered_none}
use Rattle.leak_replaying.proofs.log_so_far.LogSoFar.begin.Goals as goal

pub returns-clause-none : goal.returns-clause-none
returns-clause-none g c = record {
  are = no_lines;
  bytes = refl;
  count = refl;
  texts = rw (c.new-2.ensures, c.new-3.ensures.items) numbered_none;
  all = λ wanted. refl;
}
