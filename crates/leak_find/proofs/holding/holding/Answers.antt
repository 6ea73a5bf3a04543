-- From the lemmas of AnswerLemmas and HolderLemmas.
use Rattle.std.proofs.Common.{refl, subst}
use Rattle.std.specs.Prelude.{Option, IfSome}
use Rattle.std.proofs.lemmas.Result.{err_from_is_err_and}
use Rattle.leak_passing.specs.Passed.{IsPassed}
use Rattle.leak_passing.specs.declared.passed.Passed.{Passed}
use Rattle.leak_search.specs.declared.error.FindError.TheVariants.{NoMemory}
use Rattle.leak_search.specs.declared.why.WhyError.TheVariants.{Find as Refused}
use Rattle.leak_find.specs.Streams.{by_reads}
use Rattle.leak_find.proofs.AnswerLemmas.{holding_told}
use Rattle.leak_find.proofs.HolderLemmas.{earlier_refused, holders_read, pass_refused, tells_holding, unheld}
use Rattle.leak_find.proofs.holding.holding.Goals as goal

pub returns-in_err-passed-clause-refused : goal.returns-in_err-passed-clause-refused
returns-in_err-passed-clause-refused g c =
    let p = err_from_is_err_and c.from_residual.result c.from_residual.ensures.1 in
    rw (p.1, p.2) (pass_refused (by_reads g.R.ReadCalls.calls) c.args.options.now c.args.question c.args.readers.now c.read_passed.new.readers _ c.in_err-passed.ensures.refused)

pub returns-in_err-earlier-clause-refused : goal.returns-in_err-earlier-clause-refused
returns-in_err-earlier-clause-refused g c =
    let p = err_from_is_err_and c.from_residual-in_err-earlier.result c.from_residual-in_err-earlier.ensures.1 in
    rw (p.1, p.2) (earlier_refused g.R.ReadCalls.calls c.args.options.now c.args.question (λ core log. IfSome c.in_ok-passed.passed (IsPassed core log c.args.options.now.skip)) c.args.readers.now c.read_passed.new.readers c.read_earlier.new.readers
    c.read_passed.ensures.count c.in_ok-passed.ensures.ok _ c.in_err-earlier.ensures.refused.0 c.in_err-earlier.ensures.refused.1)

pub returns-in_default-clause-refused : goal.returns-in_default-clause-refused
returns-in_default-clause-refused g c =
    let o = c.args.options.now in
    unheld g.R.ReadCalls.calls o c.args.question (λ core log. IfSome c.in_ok-passed.passed (IsPassed core log o.skip)) c.args.readers.now c.read_passed.new.readers c.read_earlier.new.readers
    c.read_passed.ensures.count c.in_ok-passed.ensures.ok c.in_ok-earlier.earlier (Refused NoMemory) c.requires c.in_ok-earlier.ensures.ok (λ other. absurd (other refl))

pub returns-in-Ok-clause-ok : goal.returns-in-Ok-clause-ok
returns-in-Ok-clause-ok g c =
    let both = c.in_ok-passed.ensures.ok in
    let o = c.args.options.now in
    let passed = subst (λ (p : Option Passed). IfSome p (IsPassed both.holds.core both.holds.log o.skip)) c.in-Some.is both.holds.passed_is in
    holders_read g.R.ReadCalls.calls o c.args.question (λ core log. IfSome c.in_ok-passed.passed (IsPassed core log o.skip)) c.args.readers.now c.read_passed.new.readers c.read_earlier.new.readers
    c.read_passed.ensures.count both _ c.in_ok-earlier.earlier c.requires c.in_ok-earlier.ensures.ok
    (tells_holding o c.args.question both.holds.core both.holds.log _ c.without_leaks.result
    (holding_told o c.args.question both.holds.core both.holds.log both.holds.core both.holds.log _ _ c.in-Ok.held c.without_leaks.result refl refl c.bytes.ensures
    (c.in-Ok.ensures.ok both.holds.core both.holds.log passed) (c.in-Ok.ensures.signs both.holds.core both.holds.log passed) c.without_leaks.ensures))

pub returns-clause-refused : goal.returns-clause-refused
returns-clause-refused g c =
    let both = c.in_ok-passed.ensures.ok in
    let o = c.args.options.now in
    let passed = subst (λ (p : Option Passed). IfSome p (IsPassed both.holds.core both.holds.log o.skip)) c.in-Some.is both.holds.passed_is in
    rw (c.at_why.ensures) (unheld g.R.ReadCalls.calls o c.args.question (λ core log. IfSome c.in_ok-passed.passed (IsPassed core log o.skip)) c.args.readers.now c.read_passed.new.readers c.read_earlier.new.readers
    c.read_passed.ensures.count both c.in_ok-earlier.earlier c.in-Err.error c.requires c.in_ok-earlier.ensures.ok
    (λ other. rw (← c.bytes.ensures) (c.in-Err.ensures.refused other both.holds.core both.holds.log passed)))
