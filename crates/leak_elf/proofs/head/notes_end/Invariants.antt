-- No part of the headers so far ends behind it.
use Rattle.std.proofs.Common.{◌<◌, ◌^◌}
use Rattle.leak_elf.specs.Headers.{table_at}
use Rattle.leak_elf.specs.Fields.{e_phoff}
use Rattle.leak_elf.specs.HeadLength.{IsNotesEnd}
use Rattle.leak_elf.proofs.head.notes_end.Given as goal

abbrev pub invariant-loop-i : goal.invariant-loop-i
invariant-loop-i l = record {
  so_far : IsNotesEnd (table_at l.bytes (e_phoff l.bytes) l.i) l.from l.end;
  bound : l.end < 2 ^ 66;
}
