-- From the lemmas of InputLemmas.
use Rattle.std.proofs.Common.{refl}
use Rattle.leak_find.specs.Streams.{by_reads}
use Rattle.leak_find.proofs.InputLemmas.{read_at, stopped_at}
use Rattle.leak_find.proofs.reading.read_reader.Goals as goal

pub returns-in-Ok-clause-ok : goal.returns-in-Ok-clause-ok
returns-in-Ok-clause-ok g c =
    read_at (by_reads g.R.ReadCalls.calls) c.args.number c.args.limit c.args.readers.now c.index-readers-number.result c.read_sized.new.reader _ c.requires.there c.in-Ok.ensures.ok

pub returns-in-Err-clause-refused : goal.returns-in-Err-clause-refused
returns-in-Err-clause-refused g c = (
  refl,
  stopped_at (by_reads g.R.ReadCalls.calls) c.args.number c.args.limit c.args.readers.now c.index-readers-number.result c.read_sized.new.reader _ c.requires.there c.in-Err.ensures.refused,
)
