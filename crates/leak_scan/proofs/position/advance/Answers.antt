-- What is skipped has no word that may be read and leads to a block.
use Rattle.std.specs.Option.{option_copied}
use Rattle.leak_scan.proofs.Advance.{advance_none, advance_idle, advance_read}
use Rattle.leak_scan.proofs.Leading.{none_found}
use Rattle.leak_scan.proofs.position.advance.Goals as goal

pub returns-in_default-clause-split : goal.returns-in_default-clause-split
returns-in_default-clause-split g c = none_found (g.L.Lookup.index c.args.lookup.now) _ c.args.from _ (advance_none _ (option_copied c.args.pages) _ _ c.in_default.ensures)

pub returns-in-None-clause-split : goal.returns-in-None-clause-split
returns-in-None-clause-split g c = advance_idle (g.L.Lookup.index c.args.lookup.now) _ (option_copied c.args.pages) _ _ _ _ c.in-Some.ensures c.in-None.ensures.ended

pub returns-in-Some-read_on-clause-split : goal.returns-in-Some-read_on-clause-split
returns-in-Some-read_on-clause-split g c = advance_read (g.L.Lookup.index c.args.lookup.now) _ (option_copied c.args.pages) _ _ _ _ _ _ _ (g.met.W.Words.aligned c.args.words.now) c.in-Some.ensures c.in-Some-read_on.ensures.read c.saturating_sub.ensures
