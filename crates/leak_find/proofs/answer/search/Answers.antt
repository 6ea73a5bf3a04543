-- From the lemmas of AnswerLemmas.
use Rattle.std.proofs.Common.{◌∙◌}
use Rattle.std.proofs.lemmas.List.{length-map}
use Rattle.std.proofs.lemmas.Result.{IfOk-weaker}
use Rattle.leak_find.specs.Inputs.{bytes_of}
use Rattle.leak_find.proofs.AnswerLemmas.{signs_of_four}
use Rattle.leak_find.proofs.answer.search.Goals as goal

pub returns-clause-signs : goal.returns-clause-signs
returns-clause-signs g c =
    IfOk-weaker c.find_two.result _ _
    (λ found are. signs_of_four c.args.options.now c.rules_of-rules.result (bytes_of c.args.inputs.now) found.signs.items c.rules_of-rules.ensures
    (length-map c.args.inputs.now _ ∙ c.requires) c.input-core1.result.now c.input-log1.result.now c.input-core2.result.now c.input-log2.result.now
    c.input-core1.ensures c.input-log1.ensures c.input-core2.ensures c.input-log2.ensures are) c.find_two.ensures.signs
