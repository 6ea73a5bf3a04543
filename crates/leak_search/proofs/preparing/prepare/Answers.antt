-- Those that the thread found are the input's.
use Rattle.leak_search.specs.Inputs.{AreRootsFor}
use Rattle.leak_search.proofs.SearchLemmas.{at_ok}
use Rattle.leak_search.proofs.preparing.prepare.Goals as goal

pub returns-clause-roots : goal.returns-clause-roots
returns-clause-roots g c = λ lines input.
    at_ok (AreRootsFor lines c.args.input.now) c.join-roots.result.0 c.in_ok-roots.field-0 c.in_ok-roots.was (c.join-roots.ensures.first lines input)
