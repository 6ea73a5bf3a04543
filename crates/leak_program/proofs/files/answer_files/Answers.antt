-- From the lemmas of Refusals.
use Rattle.std.proofs.Common.{map, string_bytes, subst, sym, refl}
use Rattle.leak_find.specs.Streams.{by_reads, by_writes}
use Rattle.std.proofs.lemmas.Result.{err_from_is_err_and}
use Rattle.leak_program.specs.Opening.{AreOpened}
use Rattle.leak_program.specs.Files.{FailsFiles}
use Rattle.leak_program.proofs.Refusals.{told, unopened}
use Rattle.leak_program.proofs.files.answer_files.Goals as goal

pub returns-in-Ok-clause-ok : goal.returns-in-Ok-clause-ok
returns-in-Ok-clause-ok g c = record {
  files = c.as_mut_slice.result.now;
  opened = subst (λ files. AreOpened g.O.Opener.opens (map string_bytes c.args.paths.now) c.args.opener.now files c.open_all.new.opener) (sym c.as_mut_slice.ensures.value) c.in_ok-files.ensures.ok;
  holds = (_, c.in-Ok.ensures.ok);
}

pub returns-clause-refused : goal.returns-clause-refused
returns-clause-refused g c =
    let given = map string_bytes c.args.paths.now in
    let fails = FailsFiles (by_reads g.O.File.ReadCalls.calls) (by_writes g.W.WriteCalls.calls) c.args.task.now c.args.writer.now c.run_sized.new.writer in
    told g.O.Opener.opens given c.args.opener.now c.open_all.new.opener c.args.writer.now c.run_sized.new.writer fails
    c.in-Err.fault c.named.result c.named.ensures
    (record {
      files = c.as_mut_slice.result.now;
      opened = subst (λ files. AreOpened g.O.Opener.opens given c.args.opener.now files c.open_all.new.opener) (sym c.as_mut_slice.ensures.value) c.in_ok-files.ensures.ok;
      holds = (_, c.in-Err.ensures.refused);
    })
    (λ n f files failed. failed.1.0)

pub returns-in_err-files-clause-refused : goal.returns-in_err-files-clause-refused
returns-in_err-files-clause-refused g c =
    let fault = c.in_err-files.field-0.0 in
    let p = err_from_is_err_and c.from_residual.result c.from_residual.ensures.1 in
    rw (p.1) (unopened g.O.Opener.opens (map string_bytes c.args.paths.now) c.args.opener.now c.open_all.new.opener c.args.writer.now c.args.writer.now
    (FailsFiles (by_reads g.O.File.ReadCalls.calls) (by_writes g.W.WriteCalls.calls) c.args.task.now c.args.writer.now c.args.writer.now) fault p.0 p.2 refl c.in_err-files.ensures.refused)
