-- From the lemmas of ReaderLemmas.
use Rattle.leak_passing.proofs.ReaderLemmas.{begins_both, core_refused, log_refused}
use Rattle.leak_passing.proofs.passing.begin_both.Goals as goal

pub returns-in-Err-clause-refused : goal.returns-in-Err-clause-refused
returns-in-Err-clause-refused g c =
    core_refused g.R.ReadCalls.calls c.args.limits c.args.skip c.args.readers.now _ c.begin_core.new.reader _ c.requires c.in-Err.ensures.refused

pub returns-in-Err-read_sized-clause-refused : goal.returns-in-Err-read_sized-clause-refused
returns-in-Err-read_sized-clause-refused g c =
    log_refused g.R.ReadCalls.calls c.args.limits c.args.skip c.args.readers.now _ _ c.begin_core.new.reader c.read_sized.new.reader c.in-Ok.begun _ c.requires
    c.in-Ok.ensures.ok c.in-Err-read_sized.ensures.refused

pub returns-in-Ok-read_sized-clause-ok : goal.returns-in-Ok-read_sized-clause-ok
returns-in-Ok-read_sized-clause-ok g c =
    begins_both g.R.ReadCalls.calls c.args.limits c.args.skip c.args.readers.now _ _ c.begin_core.new.reader c.read_sized.new.reader c.in-Ok.begun _ c.requires
    c.in-Ok.ensures.ok c.in-Ok-read_sized.ensures.ok
