-- Nothing is left of plain words.
use Rattle.std.proofs.Common.{ap, ◌∙◌}
use Rattle.leak_scan.specs.Targets.{targets_of}
use Rattle.leak_scan.proofs.Ahead.{targets_none}
use Rattle.leak_scan.proofs.scan.next_on.Goals as goal

pub returns-in-Plain-clause-end : goal.returns-in-Plain-clause-end
returns-in-Plain-clause-end g c = λ e.
    ap (targets_of (g.L.Lookup.index c.args.lookup.now)) (c.next_hits-hits.ensures.end e) ∙ targets_none (g.L.Lookup.index c.args.lookup.now)
