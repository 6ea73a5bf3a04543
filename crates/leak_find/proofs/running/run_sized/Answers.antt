-- From what the calls promise.
use Rattle.std.proofs.Common.{◌≡◌, ℕ, Bool, List, ap, subst, ◌∙◌}
use Rattle.leak_streams.specs.Writes.{IsWrittenWhole, IsCutOff}
use Rattle.leak_report.specs.Warnings.{warnings_of}
use Rattle.leak_find.specs.Run.{status_by}
use Rattle.leak_find.specs.Streams.{IsTried, by_writes}
use Rattle.leak_find.specs.Tasks.{is_strict}
use Rattle.leak_find.proofs.running.run_sized.Goals as goal

pub returns-in-Err-clause-refused : goal.returns-in-Err-clause-refused
returns-in-Err-clause-refused g c = record {
  answer = c.in_ok-answer.answer;
  answered = c.in_ok-answer.ensures.ok;
  cut_off = subst (λ (text : List ℕ). IsCutOff g.W.WriteCalls.calls text c.args.writer.now c.write_both.new.writer c.in-Err.fault) c.deref.ensures.value c.in-Err.ensures.cut_off;
}

pub returns-clause-ok : goal.returns-clause-ok
returns-clause-ok g c =
    let shown : c.as_str.result.now ≡ warnings_of c.in_ok-answer.answer.signs.items = c.as_str.ensures.value ∙ c.in-Ok.ensures ∙ ap (λ ss. warnings_of ss) c.as_slice.ensures.value in
    let again : c.as_str-2.result.now ≡ warnings_of c.in_ok-answer.answer.signs.items = c.as_str-2.ensures.value ∙ c.in-Ok.ensures ∙ ap (λ ss. warnings_of ss) c.as_slice.ensures.value in
    record {
      answer = c.in_ok-answer.answer;
      answered = c.in_ok-answer.ensures.ok;
      written = subst (λ (text : List ℕ). IsWrittenWhole g.W.WriteCalls.calls text c.args.writer.now c.write_both.new.writer) c.deref.ensures.value c.in_default-write_both.ensures.ok;
      warned = subst (λ (text : List ℕ). IsTried (by_writes g.V.WriteCalls.calls) text c.args.warner.now c.write_both.new.warner) shown c.in_default-write_both.ensures.warned;
      status_is = c.status_of.ensures
          ∙ ap (λ (s : Bool). status_by s c.in_ok-answer.answer.leaked c.as_str-2.result.now) c.is_strict.ensures
          ∙ ap (λ text. status_by (is_strict c.args.task.now) c.in_ok-answer.answer.leaked text) again;
    }
