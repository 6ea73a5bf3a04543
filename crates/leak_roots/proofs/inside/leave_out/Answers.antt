-- From the lemmas of LeftOut.
use Rattle.std.proofs.Common.{◌∙◌, sym}
use Rattle.std.proofs.lemmas.Bool.{eqb-true}
use Rattle.leak_roots.specs.Places.{memory_places}
use Rattle.leak_roots.proofs.LeftOut.{none_left_out, none_counted}
use Rattle.leak_roots.proofs.inside.leave_out.Goals as goal

pub returns-then-is_empty-clause-places : goal.returns-then-is_empty-clause-places
returns-then-is_empty-clause-places c = none_left_out c.args.spans.now (memory_places c.args.memory.items) (eqb-true _ _ (sym c.is_empty.ensures ∙ c.if-is_empty.true))

pub returns-then-is_empty-clause-inside : goal.returns-then-is_empty-clause-inside
returns-then-is_empty-clause-inside c = none_counted c.args.spans.now (memory_places c.args.memory.items) (eqb-true _ _ (sym c.is_empty.ensures ∙ c.if-is_empty.true))
