-- From lemmas of std.
use Rattle.std.proofs.Common.{◌≡◌, ◌∙◌, ◌++◌, ap, append_assoc, codes, rules}
use Rattle.std.proofs.lemmas.Result.{on_ok_weaker}
use Rattle.leak_request.specs.Escaped.{escaped}
use Rattle.leak_program.specs.InputTexts.{reason_text}
use Rattle.leak_program.proofs.messages.push_unopened.Goals as goal

pub returns : goal.returns
returns c =
    let front = codes "cannot open " ++ escaped c.args.path.now in
    let text : c.as_str.result.now ≡ reason_text c.args.reason = search rules in
    on_ok_weaker c.push_text.result
    (λ told. told ∙ ap (λ it. it ++ c.as_str.result.now) c.in_ok-push_path.ensures
    ∙ append_assoc c.args.out.now.items front c.as_str.result.now ∙ ap (λ it. c.args.out.now.items ++ (front ++ it)) text) c.push_text.ensures
