-- From lemmas of std.
use Rattle.std.proofs.Common.{◌<◌, ◌≤◌, Ok, Err, string_bytes, refl, subst}
use Rattle.std.proofs.lemmas.List.{length-map}
use Rattle.leak_program.proofs.starting.answer_all.Goals as goal

pub returns-in-Ok : goal.returns-in-Ok
returns-in-Ok g c =
    let count = length-map c.args.words.now string_bytes in
    record {
      result = Ok c.in-Ok.status;
      hearing = c.answer.new.warner;
      answer = (λ few. (c.answer.ensures.no_file (subst (λ n. n < 2) count few), c.in-Ok.ensures.sample (subst (λ n. n < 2) count few)), λ many. c.in-Ok.ensures.ok (subst (λ n. 2 ≤ n) count many));
      said = refl;
      status_is = refl;
    }

pub returns-in-Err : goal.returns-in-Err
returns-in-Err g c =
    let count = length-map c.args.words.now string_bytes in
    record {
      result = Err c.in-Err.failure;
      hearing = c.answer.new.warner;
      answer = (c.in-Err.ensures.silent, λ few. (c.answer.ensures.no_file (subst (λ n. n < 2) count few), c.in-Err.ensures.sample_refused (subst (λ n. n < 2) count few)), λ many. c.in-Err.ensures.refused (subst (λ n. 2 ≤ n) count many));
      said = c.refuse.ensures.told;
      status_is = c.refuse.ensures.status;
    }
