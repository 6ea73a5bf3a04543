-- From the lemmas of Values.
use Rattle.std.proofs.Common.{◌∙◌, arith}
use Rattle.leak_request.proofs.Values.{bad_by, path_lacks, values_of}
use Rattle.clap.specs.Words.{found_of, rows_of}
use Rattle.leak_request.proofs.found_values.paths.Goals as goal

pub returns-in_default-clause-refused : goal.returns-in_default-clause-refused
returns-in_default-clause-refused c =
    bad_by c.bad_arguments.result
    (path_lacks (rows_of (found_of c.args.found.now)) c.args.ids.now c.loop-id.id-index _ c.loop-id-test.true c.in_default.ensures)
    c.bad_arguments.ensures

pub returns-clause-ok : goal.returns-clause-ok
returns-clause-ok c =
    let t = c.loop-id-test.false in
    c.loop-id.invariant ∙ values_of (rows_of (found_of c.args.found.now)) c.args.ids.now c.loop-id.id-index (omega (arith, t))
