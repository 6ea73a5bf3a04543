-- The headers so far were read.
use Rattle.std.proofs.Common.{◌≡◌}
use Rattle.leak_elf.specs.Headers.{table_at}
use Rattle.leak_elf.specs.Fields.{e_phoff}
use Rattle.leak_elf.proofs.header.read_headers.Given as goal

abbrev pub invariant-loop-i : goal.invariant-loop-i
invariant-loop-i l = l.headers.items ≡ table_at l.core (e_phoff l.core) l.i
