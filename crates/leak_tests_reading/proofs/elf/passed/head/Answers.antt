-- The first bytes of that length are a head, as head_of says.
use Rattle.std.proofs.Common.{[], ◌∙◌, sym, take, drop, arith, length-take}
use Rattle.std.proofs.lemmas.List.{append-nil, take-append-drop}
use Rattle.leak_tests_reading.proofs.elf.passed.head.Goals as goal

pub returns-clause-head : goal.returns-clause-head
returns-clause-head g c =
    let core = c.args.core.now in
    let len = c.in-Length.len in
    (c.in-Length.ensures.0 (take len core) (record { rest = drop len core; more = []; same = take-append-drop len core ∙ sym (append-nil core) }) (omega (arith, length-take len core, c.if-len-core.true))).0
