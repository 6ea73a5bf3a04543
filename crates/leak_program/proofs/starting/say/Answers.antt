-- From the lemmas of TriedLemmas.
use Rattle.leak_find.proofs.TriedLemmas.{tried}
use Rattle.leak_find.specs.Streams.{by_writes}
use Rattle.leak_program.proofs.starting.say.Goals as goal

pub returns : goal.returns
returns g c =
    tried (by_writes g.V.WriteCalls.calls) c.args.text.now c.args.warner.now c.write-taken.new.writer c.write-taken.result
    c.write-taken.ensures.ok c.write-taken.ensures.fault
