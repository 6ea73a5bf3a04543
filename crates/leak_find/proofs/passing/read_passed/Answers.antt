-- From the lemmas of PassLemmas.
use Rattle.std.proofs.Common.{rules, ◌≡◌, take, subst}
use Rattle.leak_passing.specs.Passed.{AreTwo, IsPassed, IsPassingFault}
use Rattle.leak_passing.specs.declared.fault.PassingFault.{PassingFault}
use Rattle.leak_passing.specs.declared.fault.PassingFault.TheVariants.{Core, Log, NoMemory}
use Rattle.leak_find.proofs.PassLemmas.{core_not_passed, log_not_passed, passed_both, passed_short}
use Rattle.leak_find.proofs.passing.read_passed.Goals as goal

pub returns-in-Ok-clause-ok : goal.returns-in-Ok-clause-ok
returns-in-Ok-clause-ok g c =
    passed_both g.R.ReadCalls.calls c.args.options.now c.limits-limits.result c.limits-limits.ensures.core c.limits-limits.ensures.log
    (λ core log. IsPassed core log c.args.options.now.skip c.in-Ok.passed) c.args.readers.now _ c.in-Ok.ensures.ok

pub returns-in-Err-Core-clause-refused : goal.returns-in-Err-Core-clause-refused
returns-in-Err-Core-clause-refused g c =
    let known : c.in-Err-Core.field-0 ≡ Core c.in-Err-Core.fault = search rules in
    core_not_passed g.R.ReadCalls.calls c.args.options.now c.limits-limits.result c.limits-limits.ensures.core c.limits-limits.ensures.log
    c.in-Err-Core.fault c.args.readers.now _
    (subst (λ (f : PassingFault). AreTwo (take 2 c.args.readers.now) c.read_passing.new.readers (IsPassingFault g.R.ReadCalls.calls c.limits-limits.result f)) known c.in-Err-Core.ensures.refused)

pub returns-in-Err-Log-clause-refused : goal.returns-in-Err-Log-clause-refused
returns-in-Err-Log-clause-refused g c =
    let known : c.in-Err-Log.field-0 ≡ Log c.in-Err-Log.fault = search rules in
    log_not_passed g.R.ReadCalls.calls c.args.options.now c.limits-limits.result c.limits-limits.ensures.core c.limits-limits.ensures.log
    c.in-Err-Log.fault c.args.readers.now _
    (subst (λ (f : PassingFault). AreTwo (take 2 c.args.readers.now) c.read_passing.new.readers (IsPassingFault g.R.ReadCalls.calls c.limits-limits.result f)) known c.in-Err-Log.ensures.refused)

pub returns-in-Err-NoMemory-clause-ok : goal.returns-in-Err-NoMemory-clause-ok
returns-in-Err-NoMemory-clause-ok g c =
    let known : c.in-Err-NoMemory.field-0 ≡ NoMemory = search rules in
    passed_short g.R.ReadCalls.calls c.args.options.now c.limits-limits.result c.limits-limits.ensures.core c.limits-limits.ensures.log
    _ (λ core log. tt) c.args.readers.now _
    (subst (λ (f : PassingFault). AreTwo (take 2 c.args.readers.now) c.read_passing.new.readers (IsPassingFault g.R.ReadCalls.calls c.limits-limits.result f)) known c.in-Err-NoMemory.ensures.refused)
