-- From the lemmas of Subcommands and Values.
use Rattle.std.proofs.Common.{map, string_bytes}
use Rattle.std.proofs.lemmas.Result.{IfErr-weaker, IfOk-weaker}
use Rattle.clap.specs.Words.{app_of, found_of, rows_of}
use Rattle.leak_request.proofs.Subcommands.{line_met, line_taken, met_whole, mistake_told, no_files, refused_after, taken_as, text_asked}
use Rattle.leak_request.proofs.Values.{files_of}
use Rattle.leak_request.proofs.arguments.request.Goals as goal

pub returns-in-Err-clause-ok : goal.returns-in-Err-clause-ok
returns-in-Err-clause-ok c =
    IfOk-weaker c.unmatched.result _ _
    (λ r is. text_asked (app_of c.in_ok-command.command) (map string_bytes c.args.words.now) c.in-Err.error r c.in_ok-command.ensures c.in-Err.ensures.kinds is)
    c.unmatched.ensures.asked

pub returns-in-Err-clause-refused : goal.returns-in-Err-clause-refused
returns-in-Err-clause-refused c =
    IfErr-weaker c.unmatched.result _ _
    (λ f is. mistake_told (app_of c.in_ok-command.command) (map string_bytes c.args.words.now) c.in-Err.error f c.in_ok-command.ensures c.in-Err.ensures.kinds is)
    c.unmatched.ensures.refused

pub returns-in-Err-clause-files : goal.returns-in-Err-clause-files
returns-in-Err-clause-files c = IfOk-weaker c.unmatched.result _ _ (λ r is. no_files r _ is) c.unmatched.ensures.asked

pub returns-in-Some-clause-ok : goal.returns-in-Some-clause-ok
returns-in-Some-clause-ok c =
    let words = map string_bytes c.args.words.now in
    let line = app_of c.in_ok-command.command in
    let rows = rows_of (found_of c.in-Some.found.now) in
    let taken = line_taken line words c.in_ok-command.ensures c.in-Ok.ensures.kinds in
    let met = line_met line words c.in-Ok.matches _ c.in_ok-command.ensures c.in-Ok.ensures.matches
    (met_whole _ _ _ c.in-Some.name.now rows c.in-Some.ensures.name c.in-Some.ensures.rows) in
    IfOk-weaker c.request_of.result _ _ (λ r is. taken_as words r (record { taken = taken; request = rw met is })) c.request_of.ensures.ok

pub returns-in-Some-clause-refused : goal.returns-in-Some-clause-refused
returns-in-Some-clause-refused c =
    let words = map string_bytes c.args.words.now in
    let line = app_of c.in_ok-command.command in
    let rows = rows_of (found_of c.in-Some.found.now) in
    let taken = line_taken line words c.in_ok-command.ensures c.in-Ok.ensures.kinds in
    let met = line_met line words c.in-Ok.matches _ c.in_ok-command.ensures c.in-Ok.ensures.matches
    (met_whole _ _ _ c.in-Some.name.now rows c.in-Some.ensures.name c.in-Some.ensures.rows) in
    IfErr-weaker c.request_of.result _ _ (λ f refused. refused_after words c.in-Some.name.now rows f taken met refused) c.request_of.ensures.refused

pub returns-in-Some-clause-files : goal.returns-in-Some-clause-files
returns-in-Some-clause-files c = IfOk-weaker c.request_of.result _ _ (files_of _ _) c.request_of.ensures.ok
