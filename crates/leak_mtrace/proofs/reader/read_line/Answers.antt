-- The caller is a range of the line.
use Rattle.std.proofs.Common.{◌≤◌, length, arith}
use Rattle.leak_mtrace.proofs.LineLemmas.{caller_within}
use Rattle.leak_mtrace.proofs.reader.read_line.Goals as goal

pub place_at-requires-clause-order : goal.place_at-requires-clause-order
place_at-requires-clause-order c = (caller_within c.args.text.now c.in-Some.line c.in-Some.ensures).0

pub place_at-requires-clause-room : goal.place_at-requires-clause-room
place_at-requires-clause-room c =
    let within : c.in-Some.line.caller.1 ≤ length c.args.text.now = (caller_within c.args.text.now c.in-Some.line c.in-Some.ensures).1 in
    omega arith
