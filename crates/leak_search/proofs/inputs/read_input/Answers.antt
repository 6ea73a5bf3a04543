-- From what the log was read as.
use Rattle.std.proofs.Common.{◌≡◌, ◌∙◌, ℕ, List, ◌++◌, ap, subst}
use Rattle.std.proofs.lemmas.List.{append-nil}
use Rattle.std.proofs.lemmas.Result.{IfOk-weaker}
use Rattle.leak_search.specs.Inputs.{IsRead}
use Rattle.leak_search.proofs.inputs.read_input.Goals as goal

pub input_of-requires-clause-read : goal.input_of-requires-clause-read
input_of-requires-clause-read c = (c.args.log.now, record { read = c.read_log.ensures.ok; unread = c.read_log.ensures.refused })

pub returns-clause-ok : goal.returns-clause-ok
returns-clause-ok c =
    let file : c.in-Ok.image ≡ c.args.core.now = c.in-Ok.ensures.ok.0 ∙ ap (λ (l : List ℕ). c.args.core.now ++ l) c.none.ensures ∙ append-nil c.args.core.now in
    IfOk-weaker c.input_of.result _ _ (λ input is. subst (λ (f : List ℕ). IsRead f c.args.log.now input) file
    (is c.args.log.now (record { read = c.read_log.ensures.ok; unread = c.read_log.ensures.refused }))) c.input_of.ensures.ok
