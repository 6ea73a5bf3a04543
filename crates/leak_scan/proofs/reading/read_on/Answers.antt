-- The three ways to go on.
use Rattle.std.proofs.Common.{arith}
use Rattle.leak_scan.proofs.Reached.{read_run, read_none, read_word}
use Rattle.leak_scan.proofs.reading.read_on.Goals as goal

pub returns-then-whole-gt0-clause-read : goal.returns-then-whole-gt0-clause-read
returns-then-whole-gt0-clause-read g c = read_run (g.L.Lookup.index c.args.lookup.now) _ _ _ c.min-whole.result _ c.run-run.result.now _ (g.met.W.Words.aligned c.args.words.now) c.run-run.ensures c.split_at.ensures.front (omega arith) c.if-whole-gt0.true (omega arith) (omega arith) c.saturating_add.ensures

pub returns-then-next-from-clause-read : goal.returns-then-next-from-clause-read
returns-then-next-from-clause-read g c = read_none (g.L.Lookup.index c.args.lookup.now) _ _ _ _ c.requires c.if-next-from.true c.in_ok-next.ensures.next.2

pub returns-clause-read : goal.returns-clause-read
returns-clause-read g c = read_word (g.L.Lookup.index c.args.lookup.now) _ _ _ _ _ _ (g.met.W.Words.aligned c.args.words.now) c.if-next-from.false c.in_ok-next.ensures.next.0 c.in_ok-next.ensures.place.0 c.in_ok-next.ensures.place.1 c.in_ok-next.ensures.next.2 c.in_ok-word.ensures.value c.saturating_add-2.ensures
