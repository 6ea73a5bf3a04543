-- From the lemmas of PassLemmas.
use Rattle.std.proofs.Common.{refl, subst}
use Rattle.std.specs.Prelude.{Option, IfSome}
use Rattle.std.proofs.lemmas.Result.{err_from_is_err_and}
use Rattle.leak_passing.specs.Passed.{IsPassedByTexts}
use Rattle.leak_passing.specs.declared.passed.PassedByTexts.{PassedByTexts}
use Rattle.leak_find.specs.Streams.{by_reads}
use Rattle.leak_find.proofs.PassLemmas.{search_read, search_refused, tells_leaks, untold}
use Rattle.leak_find.proofs.passing.search_passing.Goals as goal

pub returns-in_err-passed-clause-refused : goal.returns-in_err-passed-clause-refused
returns-in_err-passed-clause-refused g c =
    let p = err_from_is_err_and c.from_residual.result c.from_residual.ensures.1 in
    rw (p.1, p.2) (search_refused (by_reads g.R.ReadCalls.calls) c.args.options.now c.args.readers.now c.read_passed_by_texts.new.readers _ c.requires.one c.in_err-passed.ensures.refused)

pub returns-in_default-clause-refused : goal.returns-in_default-clause-refused
returns-in_default-clause-refused g c =
    search_read g.R.ReadCalls.calls c.args.options.now (λ core log. IfSome c.in_ok-passed.field-0 (IsPassedByTexts core log c.args.options.now.skip)) _ c.args.readers.now
    c.read_passed_by_texts.new.readers c.requires.one c.requires.readers c.in_ok-passed.ensures.ok (λ other. absurd (other refl))

pub returns-in-Ok-clause-ok : goal.returns-in-Ok-clause-ok
returns-in-Ok-clause-ok g c =
    let both = c.in_ok-passed.ensures.ok in
    let o = c.args.options.now in
    let passed = subst (λ (p : Option PassedByTexts). IfSome p (IsPassedByTexts both.holds.core both.holds.log o.skip)) c.in-Some.is both.holds.passed_is in
    search_read g.R.ReadCalls.calls o (λ core log. IfSome c.in_ok-passed.field-0 (IsPassedByTexts core log o.skip)) _ c.args.readers.now c.read_passed_by_texts.new.readers c.requires.one c.requires.readers both
    (tells_leaks o c.rules_of-rules.result c.in-Some.passed both.holds.core both.holds.log c.requires.one c.rules_of-rules.ensures passed
    c.in-Ok.found c.answer_of.result c.in-Ok.ensures.ok c.in-Ok.ensures.signs c.answer_of.ensures)

pub returns-in-Err-clause-refused : goal.returns-in-Err-clause-refused
returns-in-Err-clause-refused g c =
    let both = c.in_ok-passed.ensures.ok in
    let o = c.args.options.now in
    let passed = subst (λ (p : Option PassedByTexts). IfSome p (IsPassedByTexts both.holds.core both.holds.log o.skip)) c.in-Some.is both.holds.passed_is in
    search_read g.R.ReadCalls.calls o (λ core log. IfSome c.in_ok-passed.field-0 (IsPassedByTexts core log o.skip)) _ c.args.readers.now c.read_passed_by_texts.new.readers c.requires.one c.requires.readers both
    (untold o c.rules_of-rules.result c.in-Some.passed both.holds.core both.holds.log c.requires.one c.rules_of-rules.ensures passed c.in-Err.error c.in-Err.ensures.refused)
