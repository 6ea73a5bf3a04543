-- By the rules that the options ask for.
use Rattle.std.proofs.Common.{[], ◌∷◌, subst}
use Rattle.std.specs.Prelude.{IfOk}
use Rattle.leak_search.specs.Signs.{AreSigns}
use Rattle.leak_search.specs.declared.rules.Rules.{Rules}
use Rattle.leak_passing.specs.Passed.{OfPassed}
use Rattle.leak_find.proofs.holding.held.Goals as goal

pub returns-in-Some-clause-signs : goal.returns-in-Some-clause-signs
returns-in-Some-clause-signs g c =
    subst (λ (r : Rules). IfOk c.find_passed_held.result (λ held. OfPassed r.skip c.args.passed (λ core log. AreSigns r.other_heap (core ∷ log ∷ []) held.signs.items)))
    c.rules_of-rules.ensures c.find_passed_held.ensures.signs

pub returns-in-Ok-clause-signs : goal.returns-in-Ok-clause-signs
returns-in-Ok-clause-signs g c =
    subst (λ (r : Rules). OfPassed r.skip c.args.passed (λ core log. AreSigns r.other_heap (core ∷ log ∷ []) c.in-Ok.holding.signs.items)) c.rules_of-rules.ensures c.in-Ok.ensures.signs
