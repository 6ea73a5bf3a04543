-- From the lemmas of AnswerLemmas.
use Rattle.leak_find.proofs.AnswerLemmas.{growth_told}
use Rattle.leak_find.proofs.answer.growth.Goals as goal

pub returns-in-Ok-clause-ok : goal.returns-in-Ok-clause-ok
returns-in-Ok-clause-ok c =
    growth_told _ _ c.input.result.now c.input-2.result.now c.in-Ok.grown c.without_leaks.result
    c.input.ensures c.input-2.ensures c.in-Ok.ensures.ok c.without_leaks.ensures
