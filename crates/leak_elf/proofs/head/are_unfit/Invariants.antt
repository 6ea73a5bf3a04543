-- None of the headers so far is one.
use Rattle.std.proofs.Common.{◌≡◌, false}
use Rattle.std.specs.List.{list_any}
use Rattle.leak_elf.specs.Headers.{table_at}
use Rattle.leak_elf.specs.Fields.{e_phoff}
use Rattle.leak_elf.specs.HeadLength.{is_unfit}
use Rattle.leak_elf.proofs.head.are_unfit.Given as goal

abbrev pub invariant-loop-i : goal.invariant-loop-i
invariant-loop-i l = list_any (is_unfit l.head) (table_at l.bytes (e_phoff l.bytes) l.i) ≡ false
