-- Each reader so far was read to its end.
use Rattle.std.proofs.Common.{◌≡◌, length}
use Rattle.leak_find.specs.Inputs.{AreRead, bytes_of}
use Rattle.leak_find.specs.Streams.{by_reads}
use Rattle.leak_find.specs.Tasks.{limit_at}
use Rattle.leak_find.proofs.reading.read_inputs.Given as goal

abbrev pub invariant-loop-number : goal.invariant-loop-number
invariant-loop-number g l = record {
  read : AreRead (by_reads g.R.ReadCalls.calls) (limit_at l.task) l.fn.readers l.readers (bytes_of l.inputs.items);
  count : length l.inputs.items ≡ l.number;
  readers : length l.readers ≡ length l.fn.readers;
}
