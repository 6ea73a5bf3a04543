-- From the lemmas of Faults.
use Rattle.std.proofs.Common.{◌≡◌, ◌≢◌, length, arith, Some, []}
use Rattle.std.specs.Prelude.{Result, Ok, Err, OnOk}
use Rattle.std.proofs.lemmas.Result.{err_from_is_err_and, IfErr-weaker}
use Rattle.leak_elf.specs.declared.error.ElfError.TheVariants.{NoMemory}
use Rattle.leak_elf.specs.Refusals.{faults_from, IsMeetingBefore}
use Rattle.leak_elf.proofs.Faults.{all_fine, ends_by_itself, ends_by_overlap}
use Rattle.leak_elf.proofs.refusal.check_headers.Goals as goal

on_ok : {T E : Type 0} (r : Result T E) (P Q : Type 0) → (P → Q) → OnOk r P → OnOk r Q
on_ok (Ok x) P Q f p = f p
on_ok (Err e) P Q f p = tt

pub returns-in_err-apart_segments-clause-refused : goal.returns-in_err-apart_segments-clause-refused
returns-in_err-apart_segments-clause-refused g c =
    let p = err_from_is_err_and c.from_residual.result c.from_residual.ensures.1 in
    rw (p.1, p.2) (λ n. ends_by_overlap g.file c.args.headers.now c.loop-i.i c.in_err-apart_segments.field-0.0 (omega arith) c.loop-i.invariant (c.in_err-apart_segments.ensures.refused n))

pub returns-in-Err-clause-refused : goal.returns-in-Err-clause-refused
returns-in-Err-clause-refused g c = λ n. ends_by_itself g.file c.args.headers.now c.loop-i.i _ c.in-Err.error c.loop-i-test.true c.loop-i.invariant c.in_ok-apart_segments.ensures.ok c.in-Err.ensures.refused

pub returns-clause-ok : goal.returns-clause-ok
returns-clause-ok g c = on_ok _ _ _ (all_fine g.file c.args.headers.now c.loop-i.i c.loop-i-test.false c.loop-i.invariant) c.apart_segments-2.ensures.ok

pub returns-clause-refused : goal.returns-clause-refused
returns-clause-refused g c =
    let file = g.file in
    let hs = c.args.headers.now in
    IfErr-weaker c.apart_segments-2.result (λ e. e ≢ NoMemory → IsMeetingBefore hs (length hs) e) (λ e. e ≢ NoMemory → faults_from file [] 0 hs ≡ Some e)
    (λ e h n. ends_by_overlap file hs (length hs) e (omega arith) (λ k d l. c.loop-i.invariant k d (omega (arith, c.loop-i-test.false))) (h n))
    c.apart_segments-2.ensures.refused
