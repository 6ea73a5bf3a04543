-- From the lemmas of ReaderLemmas.
use Rattle.std.proofs.Common.{ℕ, List, refl, subst}
use Rattle.std.specs.Prelude.{◌≢◌, IfOk, IfErr}
use Rattle.leak_mtrace.specs.declared.error.LogError.TheVariants.{NoMemory}
use Rattle.leak_mtrace.specs.Log.{IsFirstFault}
use Rattle.leak_search.specs.Inputs.{IsReadLog}
use Rattle.leak_passing.proofs.ReaderLemmas.{both_read, core_begun, rest_refused}
use Rattle.leak_passing.proofs.passing.read_passing.Goals as goal

pub keep_core-requires-after_bounds : goal.keep_core-requires-after_bounds
keep_core-requires-after_bounds g c κs within =
    let two = c.in_ok-begun.ensures.ok in
    (two.was.core, core_begun g.R.ReadCalls.calls c.args.limits c.args.skip c.args.readers.now _ _ c.in_ok-begun.begun _ two)

pub returns-in-Err-clause-refused : goal.returns-in-Err-clause-refused
returns-in-Err-clause-refused g c =
    rw (c.at_rest.ensures) (rest_refused g.R.ReadCalls.calls c.args.limits c.args.skip c.args.readers.now _ _ c.in_ok-begun.begun _ c.in_ok-begun.ensures.ok c.keep_core.new.reader _ c.in-Err.ensures.refused)

pub returns-in-Ok-clause-ok : goal.returns-in-Ok-clause-ok
returns-in-Ok-clause-ok g c =
    both_read g.R.ReadCalls.calls c.args.limits c.args.skip c.args.readers.now _ _ c.in_ok-begun.begun _ c.in_ok-begun.ensures.ok c.keep_core.new.reader _ _ _ _ _ c.in-Ok.ensures.ok
    (λ core kept. record {
      text = refl;
      read = subst (λ (l : List ℕ). IfOk c.read_log-read.result (IsReadLog c.args.skip l)) c.as_slice.ensures.value c.read_log-read.ensures.ok;
      unread = subst (λ (l : List ℕ). IfErr c.read_log-read.result (λ e. e ≢ NoMemory → IsFirstFault l e)) c.as_slice.ensures.value c.read_log-read.ensures.refused;
      kept = kept;
    })
