-- From the lemmas of Refusals.
use Rattle.std.proofs.Common.{map, rules, string_bytes, subst}
use Rattle.std.proofs.lemmas.List.{length-map}
use Rattle.std.proofs.lemmas.Result.{IfErr-weaker, IfOk-weaker}
use Rattle.leak_find.specs.Streams.{by_reads, by_writes}
use Rattle.leak_find.specs.Tasks.{TakesInputs}
use Rattle.leak_program.specs.Asked.{AsksFor}
use Rattle.leak_program.proofs.Refusals.{answered, not_shown, refused_by, shown}
use Rattle.leak_program.proofs.answering.answer.Goals as goal

pub answer_files-requires : goal.answer_files-requires
answer_files-requires g c =
    let asks = subst (AsksFor c.in_ok-request.request) c.in-Files.is c.asked_of.ensures in
    (search rules, subst (TakesInputs c.in-Files.task) (length-map c.in-Files.paths.now string_bytes) (asks.as_many c.in_ok-request.ensures.files))

pub returns-in-Files-clause-ok : goal.returns-in-Files-clause-ok
returns-in-Files-clause-ok g c = λ some.
    let asks = subst (AsksFor c.in_ok-request.request) c.in-Files.is c.asked_of.ensures in
    IfOk-weaker c.answer_files.result _ _
    (λ status told. answered _ _ _ _ (map string_bytes c.args.words.now) c.in_ok-request.request (map string_bytes c.in-Files.paths.now) c.in-Files.task _ _ _ _ _ _ status c.in_ok-request.ensures.ok asks told) c.answer_files.ensures.ok

pub returns-in-Files-clause-refused : goal.returns-in-Files-clause-refused
returns-in-Files-clause-refused g c = λ some.
    let asks = subst (AsksFor c.in_ok-request.request) c.in-Files.is c.asked_of.ensures in
    IfErr-weaker c.answer_files.result _ _
    (λ failure fails. refused_by _ _ _ (map string_bytes c.args.words.now) c.in_ok-request.request (map string_bytes c.in-Files.paths.now) c.in-Files.task _ _ _ _ failure c.in_ok-request.ensures.ok asks fails) c.answer_files.ensures.refused

pub returns-clause-ok : goal.returns-clause-ok
returns-clause-ok g c = λ some.
    let asks = subst (AsksFor c.in_ok-request.request) c.in-Text.is c.asked_of.ensures in
    IfOk-weaker c.show.result _ _
    (λ status told. shown g.O.Opener.opens (by_reads g.O.File.ReadCalls.calls) (by_writes g.W.WriteCalls.calls) (by_writes g.V.WriteCalls.calls) (map string_bytes c.args.words.now) c.in_ok-request.request
    c.in-Text.text.now c.args.opener.now c.args.writer.now c.show.new.writer c.args.warner.now status c.in_ok-request.ensures.ok asks told) c.show.ensures.ok

pub returns-clause-refused : goal.returns-clause-refused
returns-clause-refused g c = λ some.
    let asks = subst (AsksFor c.in_ok-request.request) c.in-Text.is c.asked_of.ensures in
    IfErr-weaker c.show.result _ _
    (λ failure fails. not_shown g.O.Opener.opens (by_reads g.O.File.ReadCalls.calls) (by_writes g.W.WriteCalls.calls) (map string_bytes c.args.words.now) c.in_ok-request.request c.in-Text.text.now
    c.args.opener.now c.args.writer.now c.show.new.writer failure c.in_ok-request.ensures.ok asks fails) c.show.ensures.refused
