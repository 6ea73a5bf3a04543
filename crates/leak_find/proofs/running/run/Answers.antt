-- From the lemmas of TellLemmas.
use Rattle.std.proofs.lemmas.Result.{IfErr-weaker, IfOk-weaker}
use Rattle.leak_find.proofs.TellLemmas.{runs_tell}
use Rattle.leak_find.proofs.running.run.Goals as goal

pub returns-clause-ok : goal.returns-clause-ok
returns-clause-ok g c =
    let tell = runs_tell g.R.Read.remaining g.W.Write.contents g.V.Write.contents in
    IfOk-weaker c.run_sized.result _ _ (λ status runs. tell.runs c.args.task.now c.args.readers.now c.run_sized.new.readers
    c.args.writer.now c.run_sized.new.writer c.args.warner.now c.run_sized.new.warner status runs) c.run_sized.ensures.ok

pub returns-clause-refused : goal.returns-clause-refused
returns-clause-refused g c =
    let tell = runs_tell g.R.Read.remaining g.W.Write.contents g.V.Write.contents in
    IfErr-weaker c.run_sized.result _ _ (λ fault refused. tell.refused c.args.task.now c.args.readers.now c.run_sized.new.readers
    c.args.writer.now c.run_sized.new.writer fault refused) c.run_sized.ensures.refused
