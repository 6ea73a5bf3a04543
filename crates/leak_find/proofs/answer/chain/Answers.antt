-- From the lemmas of AnswerLemmas.
use Rattle.std.proofs.Common.{refl}
use Rattle.leak_find.proofs.AnswerLemmas.{chain_told}
use Rattle.leak_find.proofs.answer.chain.Goals as goal

pub returns-in-Ok-clause-ok : goal.returns-in-Ok-clause-ok
returns-in-Ok-clause-ok c =
    chain_told c.args.options.now c.args.address _ _ c.input-core.result.now c.input-log.result.now c.rules_of.result c.in-Ok.why _
    c.rules_of.ensures c.input-core.ensures c.input-log.ensures c.in-Ok.ensures.ok c.in-Ok.ensures.signs refl c.leaked_if_not.ensures refl
