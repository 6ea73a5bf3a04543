-- From lemmas of std.
use Rattle.std.proofs.Common.{◌∙◌, ◌++◌, ap, append_assoc, codes, string_bytes}
use Rattle.std.proofs.lemmas.Result.{on_ok_weaker}
use Rattle.leak_program.specs.WordTexts.{reading_text}
use Rattle.leak_program.proofs.texts.words.push_displace.Goals as goal

pub returns-in_ok-push_str-in-Reading : goal.returns-in_ok-push_str-in-Reading
returns-in_ok-push_str-in-Reading c =
    rw c.in-Reading.is
    (on_ok_weaker c.push_reading.result
    (λ told. told ∙ ap (λ text. text ++ reading_text c.in-Reading.error) c.in_ok-push_str-in-Reading.ensures.bytes
    ∙ append_assoc (string_bytes c.args.out.now) (codes "--displace: ") (reading_text c.in-Reading.error)) c.push_reading.ensures)
