-- From the lemmas of TriedLemmas.
use Rattle.std.proofs.Common.{ℕ, List, subst}
use Rattle.leak_find.specs.Streams.{IsTried, by_writes}
use Rattle.leak_find.proofs.TriedLemmas.{tried}
use Rattle.leak_find.proofs.running.write_both.Goals as goal

pub returns-clause-warned : goal.returns-clause-warned
returns-clause-warned g c =
    subst (λ (text : List ℕ). IsTried (by_writes g.V.WriteCalls.calls) text c.args.warner.now c.write-taken.new.writer) c.as_bytes.ensures.value
    (tried (by_writes g.V.WriteCalls.calls) c.as_bytes.result.now c.args.warner.now c.write-taken.new.writer c.write-taken.result c.write-taken.ensures.ok c.write-taken.ensures.fault)
