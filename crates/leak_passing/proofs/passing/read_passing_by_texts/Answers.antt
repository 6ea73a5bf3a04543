-- From the lemmas of ReaderLemmas.
use Rattle.leak_passing.proofs.ReaderLemmas.{both_read, core_begun, rest_refused}
use Rattle.leak_passing.proofs.passing.read_passing_by_texts.Goals as goal

pub keep_core-requires-after_bounds : goal.keep_core-requires-after_bounds
keep_core-requires-after_bounds g c κs within =
    let two = c.in_ok-begun.ensures.ok.2 in
    (two.was.core, core_begun g.R.ReadCalls.calls c.args.limits c.args.skip c.args.readers.now _ _ c.in_ok-begun.begun _ two)

pub returns-in-Err-clause-refused : goal.returns-in-Err-clause-refused
returns-in-Err-clause-refused g c =
    rw (c.at_rest.ensures) (rest_refused g.R.ReadCalls.calls c.args.limits c.args.skip c.args.readers.now _ _ c.in_ok-begun.begun _ c.in_ok-begun.ensures.ok.2 c.keep_core.new.reader _ c.in-Err.ensures.refused)

pub returns-in-Ok-clause-ok : goal.returns-in-Ok-clause-ok
returns-in-Ok-clause-ok g c =
    both_read g.R.ReadCalls.calls c.args.limits c.args.skip c.args.readers.now _ _ c.in_ok-begun.begun _ c.in_ok-begun.ensures.ok.2 c.keep_core.new.reader _ _ _ _ _ c.in-Ok.ensures.ok
    (λ core kept. record {
      texts = λ few. c.in_ok-begun.ensures.ok.1.texts;
      read = c.in_ok-begun.ensures.ok.1.read;
      unread = c.in_ok-begun.ensures.ok.1.unread;
      kept = kept;
    })
